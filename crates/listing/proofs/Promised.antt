-- What the contract of a piece promises, said of any outcome that `ListedPiece` allows: the text lies at the output's beginning and
-- all else stays, it is what the bytes used print, the port is left as they leave it, and the listing of the whole input goes on from
-- there.
use Prim.Native.Nat.{ℕ, ◌≤◌}
use native.Mathlib.Omega.{arith}
use mathlib.Core.Path.{◌≡◌, sym, ap, ◌∙◌}
use mathlib.Core.Bool.{Bool, true, false, cond}
use mathlib.Core.List.{List, [], ◌++◌, append-nil}
use lib.ListN.{length, take, drop, length-append, length-take, length-drop, take-append-drop}
use lib.Seq.{take-append_seam, drop-append_seam, take-take}
use Rattle.words.proofs.Contracts.{Contract}
use Rattle.registers.specs.declared.Registers.{Registers}
use Rattle.port_spec.specs.Sequences.{Machine, machine}
use Rattle.listing.specs.Answer.{bad_line}
use Rattle.listing.specs.Listing.{Listing, start, listing, fitting, piece_listing, ListedPiece}
use Rattle.listing.specs.Pieces.{at_end, printed, left_over, behind}
use Rattle.listing.specs.declared.Listed.{Listed}
use Rattle.listing.proofs.Cutting.{come, cut, cut_after_bad}
use Rattle.listing.proofs.Fitting.{fits}
use Rattle.listing.proofs.LineByLine.{between}
use Rattle.listing.proofs.WholeLines.{whole, lines_are, text_fits}
use Rattle.listing.specs.Line.{front_line}
use Rattle.listing.proofs.lines.front_line.Kinds as front_line_kinds
use Rattle.listing.proofs.lines.front_line.Reads as front_line
use Rattle.listing.proofs.following.good_lines.Kinds as good_lines_kinds
use Rattle.listing.proofs.following.good_lines.Reads as good_lines
use Rattle.listing.proofs.pieces.list_piece.Kinds as list_piece_kinds
use Rattle.listing.proofs.pieces.list_piece.Reads as list_piece

-- ---- the piece that fits
module _ (r : Registers) (m input out : List ℕ) where
  abbrev fit : ℕ
  fit = fitting (length out)

  abbrev x : Listing
  x = piece_listing r m input out

  used_fits : x.used ≤ fit
  used_fits = omega (arith, (come (machine r m) (take fit input)).most, length-take fit input)

  -- the bytes used are the input's first
  lines_first : (whole (machine r m) (take fit input)).lines ≡ take x.used input
  lines_first = sym (lines_are (machine r m) (take fit input)) ∙ take-take x.used fit input used_fits

  -- listed alone, they leave the port as the piece leaves it
  lines_alone :
      listing (start (machine r m)) (take x.used input) ≡ between x.machine (whole (machine r m) (take fit input)).text x.used
  lines_alone = ap (listing (start (machine r m))) (sym lines_first) ∙ (whole (machine r m) (take fit input)).alone

  -- the text of the piece has room in the output
  room : length x.text ≤ length out
  room =
      text_fits (machine r m) (take fit input) (length out)
      (omega (arith, fits (length out), length-take fit input))

-- ---- what a piece leaves
module _ {r : Registers} {m input out : List ℕ} {o : Listed} {m' out' : List ℕ} (k : ListedPiece r m input out o m' out') where
  wrote_is : o.wrote ≡ length (piece_listing r m input out).text
  wrote_is = ap (λ (y : Listed). y.wrote) k.outcome

  used_is : o.used ≡ (piece_listing r m input out).used
  used_is = ap (λ (y : Listed). y.used) k.outcome

  ended_is : o.ended ≡ (piece_listing r m input out).ended
  ended_is = ap (λ (y : Listed). y.ended) k.outcome

  -- The first bytes of the output, as many as a piece says it wrote, are the text that the bytes which fit print.
  pub writes_the_text : take o.wrote out' ≡ (piece_listing r m input out).text
  writes_the_text =
      ap (λ (n : ℕ). take n out') wrote_is ∙
      ap (take (length (piece_listing r m input out).text)) k.output ∙
      take-append_seam (piece_listing r m input out).text _

  -- Every place of the output behind what a piece says it wrote stays.
  pub keeps_the_rest : drop o.wrote out' ≡ drop o.wrote out
  keeps_the_rest =
      ap (λ (n : ℕ). drop n out') wrote_is ∙
      ap (drop (length (piece_listing r m input out).text)) k.output ∙
      drop-append_seam (piece_listing r m input out).text _ ∙
      ap (λ (n : ℕ). drop n out) (sym wrote_is)

  -- A piece writes no more bytes than the output has, and leaves the output as long as it was.
  pub writes_within : (o.wrote ≤ length out) × (length out' ≡ length out)
  writes_within =
      let n = room r m input out in
      (omega (arith, n, wrote_is), ap length k.output ∙ simp (length-append, length-drop) (omega (arith, n)))

  -- A piece uses no more bytes than the input has.
  pub uses_within : o.used ≤ length input
  uses_within =
      let n = (come (machine r m) (take (fitting (length out)) input)).most in
      omega (arith, n, used_is, length-take (fitting (length out)) input)

  -- The bytes that a piece uses are whole good lines: listed alone they are all used, no line is begun, and none is bad.
  pub uses_whole_lines :
      let y = listing (start (machine r m)) (take o.used input) in (y.used ≡ o.used) × (y.begun ≡ []) × (y.ended ≡ false)
  uses_whole_lines =
      rw used_is
      (let e = lines_alone r m input out in
      (ap (λ (y : Listing). y.used) e, ap (λ (y : Listing). y.begun) e, ap (λ (y : Listing). y.ended) e))

  -- The registers and the memory are left as the lines that a piece uses leave them.
  pub leaves_the_port : machine o.registers m' ≡ (listing (start (machine r m)) (take o.used input)).machine
  leaves_the_port =
      ap (λ (y : Listed). machine y.registers m') k.outcome ∙
      ap (machine (piece_listing r m input out).machine.registers) k.memory ∙
      sym
      (ap (λ (n : ℕ). (listing (start (machine r m)) (take n input)).machine) used_is ∙
      ap (λ (y : Listing). y.machine) (lines_alone r m input out))

  -- what these lines print
  abbrev lines_text : List ℕ
  lines_text = (listing (start (machine r m)) (take o.used input)).text

  text_is : take o.wrote out' ≡ lines_text ++ cond o.ended bad_line []
  text_is =
      writes_the_text ∙
      (whole (machine r m) (take (fitting (length out)) input)).said ∙
      ap (λ (l : List ℕ). l ++ cond (piece_listing r m input out).ended bad_line [])
      (sym
      (ap (λ (n : ℕ). (listing (start (machine r m)) (take n input)).text) used_is ∙
      ap (λ (y : Listing). y.text) (lines_alone r m input out))) ∙
      ap (λ (c : Bool). lines_text ++ cond c bad_line []) (sym ended_is)

  -- Where no bad line ended a piece, its text is what the bytes used print.
  pub prints_the_lines : o.ended ≡ false → take o.wrote out' ≡ printed (machine r m) (take o.used input)
  prints_the_lines e =
      text_is ∙ ap (λ (c : Bool). lines_text ++ cond c bad_line []) e ∙
      ap (λ (l : List ℕ). lines_text ++ left_over l) (sym uses_whole_lines.1)

  -- Where a bad line ended a piece, its text is what the bytes used print, and then `bad line`.
  pub prints_the_lines_and_bad_line : o.ended ≡ true → take o.wrote out' ≡ printed (machine r m) (take o.used input) ++ bad_line
  prints_the_lines_and_bad_line e =
      text_is ∙ ap (λ (c : Bool). lines_text ++ cond c bad_line []) e ∙
      ap (λ (l : List ℕ). l ++ bad_line) (sym (append-nil lines_text)) ∙
      ap (λ (l : List ℕ). (lines_text ++ left_over l) ++ bad_line) (sym uses_whole_lines.1)

  -- ---- and the whole input
  -- Where no bad line ended a piece, the listing of the whole input is that of the bytes that are left, from what the piece leaves, behind
  -- its text.
  pub goes_on_from_there : o.ended ≡ false →
      listing (start (machine r m)) input ≡
      behind (take o.wrote out') o.used (listing (start (machine o.registers m')) (drop o.used input))
  goes_on_from_there e =
      let v : List ℕ = drop o.used input in
      let y = listing (start (machine r m)) (take o.used input) in
      let text : y.text ≡ take o.wrote out' =
      sym (text_is ∙ ap (λ (c : Bool). lines_text ++ cond c bad_line []) e ∙ append-nil lines_text) in
      ap (listing (start (machine r m))) (sym (take-append-drop o.used input)) ∙
      cut (machine r m) (take o.used input) v uses_whole_lines.2 ∙
      ap (λ (t : List ℕ). behind t y.used (listing (start y.machine) (y.begun ++ v))) text ∙
      ap (λ (n : ℕ). behind (take o.wrote out') n (listing (start y.machine) (y.begun ++ v))) uses_whole_lines.0 ∙
      ap (λ (q : Machine). behind (take o.wrote out') o.used (listing (start q) (y.begun ++ v))) (sym leaves_the_port) ∙
      ap (λ (l : List ℕ). behind (take o.wrote out') o.used (listing (start (machine o.registers m')) (l ++ v)))
      uses_whole_lines.1

  -- Where a bad line ended a piece, its text is what the whole input prints, the port is left as the whole input leaves it, and the bad
  -- line ends that listing too.
  pub ends_there : o.ended ≡ true →
      (printed (machine r m) input ≡ take o.wrote out') × ((listing (start (machine r m)) input).machine ≡ machine o.registers m')
      × ((listing (start (machine r m)) input).ended ≡ true)
  ends_there e =
      let t : List ℕ = take (fitting (length out)) input in
      let y = piece_listing r m input out in
      let f : y.ended ≡ true = sym ended_is ∙ e in
      let same : listing (start (machine r m)) input ≡ y =
      ap (listing (start (machine r m))) (sym (take-append-drop (fitting (length out)) input)) ∙
      cut_after_bad (machine r m) t (drop (fitting (length out)) input) f in (
        ap at_end same ∙
            ap (λ (l : List ℕ). y.text ++ left_over l) ((come (machine r m) t).cleared f) ∙
            append-nil y.text ∙
            sym writes_the_text,
        ap (λ (z : Listing). z.machine) same ∙
            ap (machine y.machine.registers) (sym k.memory) ∙
            ap (λ (z : Listed). machine z.registers m') (sym k.outcome),
        ap (λ (z : Listing). z.ended) same ∙ f,
      )

-- ---- the contracts themselves: each is a statement on the call's own arguments
-- `front_line` takes any s, and all that its contract allows is `front_line` of it.
pub front_line_contract : Contract front_line_kinds.ps front_line_kinds.r front_line.Pre front_line.Post
    (λ κs args r left.
    let s = args.0 in
    r ≡ front_line s.now)
front_line_contract = record { takes_any = λ κs args. tt; says = λ κs args r left p. p }

-- `good_lines` takes any text, and all that its contract allows is that the whole text is still to come.
pub good_lines_contract : Contract good_lines_kinds.ps good_lines_kinds.r good_lines.Pre good_lines.Post
    (λ κs args lines left.
    let text = args.0 in
    lines.left.now ≡ text.now)
good_lines_contract = record { takes_any = λ κs args. tt; says = λ κs args lines left p. p }

-- `list_piece` takes any r, memory, input and output, and all that its contract allows is `ListedPiece` of them.
pub list_piece_contract : Contract list_piece_kinds.ps list_piece_kinds.r list_piece.Pre list_piece.Post
    (λ κs args o left.
    let r = args.0 in
    let memory = args.1.0 in
    let memory' = left.1.0 in
    let input = args.1.1.0 in
    let output = args.1.1.1.0 in
    let output' = left.1.1.1.0 in
    ListedPiece r memory.now input.now output.now o memory'.now output'.now)
list_piece_contract = record { takes_any = λ κs args. tt; says = λ κs args o left p. p }
