-- Deliveries and ends in any order, each on the stream that the call before it left: the words of the laws on what follows an end.
--   Deed                what was done: a delivery, with what came of it, or an end, with its answer
--   Did                 deeds one after another, as the contracts allow them
--   handed_by           the accesses that they handed out
--   answers_by          what they answered
--   before_the_end      the deliveries before the first end, or all where there is none
--   HasEnd              an end is among them
use Rattle.std.specs.Prelude.{◌≡◌, List, [], ◌∷◌, ◌++◌}
use Rattle.transcript_spec.specs.declared.Entry.{Entry}
use Rattle.stream_spec.specs.InPlainWords.{handed, Turn}
use Rattle.stream_spec.specs.Stream.{end_answer, TookDelivery}
use Rattle.stream_spec.specs.declared.Stream.{Stream}
use Rattle.stream_spec.specs.declared.Streamed.{Streamed}

pub data Deed : Type 0 where
  delivery : Turn → Deed
  end : Streamed → Deed

pub data Did : Stream → List Deed → Stream → Type 0 where
  nothing : {st : Stream} → Did st [] st
  then_delivery : {st st' : Stream} {t : Turn} {ds : List Deed} → TookDelivery st t.bytes t.lent t.answer t.left →
      Did t.answer.stream ds st' → Did st (delivery t ∷ ds) st'
  then_end : {st st' : Stream} {o : Streamed} {ds : List Deed} → o ≡ end_answer st → Did o.stream ds st' → Did st (end o ∷ ds) st'

-- an end hands out nothing: it is lent no lists
unfoldable pub handed_by : List Deed → List Entry
handed_by [] = []
handed_by (delivery t ∷ ds) = handed t.answer t.left ++ handed_by ds
handed_by (end o ∷ ds) = handed_by ds

unfoldable pub answers_by : List Deed → List Streamed
answers_by [] = []
answers_by (delivery t ∷ ds) = t.answer ∷ answers_by ds
answers_by (end o ∷ ds) = o ∷ answers_by ds

unfoldable pub before_the_end : List Deed → List Turn
before_the_end [] = []
before_the_end (delivery t ∷ ds) = t ∷ before_the_end ds
before_the_end (end o ∷ ds) = []

abbrev pub HasEnd : List Deed → Type 0
HasEnd [] = ⊥
HasEnd (delivery t ∷ ds) = HasEnd ds
HasEnd (end o ∷ ds) = Unit
