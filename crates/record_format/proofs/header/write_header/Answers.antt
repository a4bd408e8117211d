use Rattle.std.proofs.Common.{refl}
use Rattle.record_format.specs.Header.{header_bytes}
use Rattle.record_format.proofs.header.write_header.Goals as goal

pub returns : goal.returns
unfolding header_bytes
returns c = rw (c.write_u64.ensures, c.write_u32-3.ensures, c.write_u32-2.ensures, c.write_u32.ensures, c.copy_from_slice.ensures.after) refl
