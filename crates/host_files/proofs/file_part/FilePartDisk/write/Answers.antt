use Rattle.std.proofs.Common.{inl, refl, arith, rules}
use Rattle.std.proofs.Math.Nat.{le-max_left}
use Rattle.host_files.proofs.file_part.FilePartDisk.write.Goals as goal

-- what may be left now might have been left before, and then it is torn nowhere
pub returns : goal.returns
returns g c = record {
  written = search rules;
  tells = refl;
  images = λ left _. (left, tt, record { before = refl; after = refl; no_shorter = omega arith; no_longer = le-max_left _ _ });
  time = record { later = omega arith; nothing_else = λ _ _ _ left. inl left; keeps = λ _ _ _ left. left };
  ranges = refl;
  counts = search rules;
}
