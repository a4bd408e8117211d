use Rattle.std.proofs.Common.{◌≡◌, ◌+◌, ◌<◌, List, ℕ, length, drop, arith, sym, ◌∙◌, ap, subst, length-drop}
use Rattle.std.specs.Int.{w64, from_le_bytes}
use Rattle.std.proofs.lemmas.List.{get_or-drop, take_all}
use Rattle.std.proofs.lemmas.Nat.{le_bytes_8}
use Rattle.disk_journal.proofs.walk.length_in.Goals as goal

pub returns-clause-spells : goal.returns-clause-spells
returns-clause-spells c =
    let front = c.args.front.now in
    let size : length (drop 2 front) ≡ 8 = omega (arith, length-drop 2 front, c.told-front) in
    let same : c.copy_from_slice.new.self ≡ drop 2 front = c.copy_from_slice.ensures.after ∙ take_all 8 (drop 2 front) (omega arith) in
    let reads : c.from_le_bytes.result ≡ from_le_bytes w64 (drop 2 front) = c.from_le_bytes.ensures ∙ ap (λ (l : List ℕ). from_le_bytes w64 l) same in
    le_bytes_8 (drop 2 front) c.from_le_bytes.result size (λ i. subst (λ (k : ℕ). k < 256) (sym (get_or-drop 2 front i 0)) (c.fits-front (2 + i))) reads
