-- `sheet::reading::write_half` meets its contract: it is one access.
use Rattle.port_spec.proofs.OneAccess.{leaves}
use Rattle.sheet.proofs.reading.write_half.Goals as goal

pub returns : goal.returns
returns c = leaves c.host_access.ensures
