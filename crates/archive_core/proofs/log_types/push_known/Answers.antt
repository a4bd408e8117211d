use Rattle.std.proofs.Common.{rules, ◌≡◌, [], ◌∷◌, ◌++◌, ◌∙◌, ap, length, take}
use Rattle.std.specs.Prelude.{false}
use Rattle.archive_core.specs.declared.log_types.LogType.{LogType}
use Rattle.archive_core.proofs.LogTypeLemmas.{front_kept, known_next}
use Rattle.archive_core.proofs.log_types.push_known.Goals as goal

pub loop-text-preserved : goal.loop-text-preserved
loop-text-preserved c =
    let k : LogType = record { slots = c.in_ok-slots.slots; tested = false } in
    let more : c.push.new.self.items ≡ c.loop-text.known.items ++ k ∷ [] = search rules in record {
      known = λ old are. known_next old c.args.texts.now c.loop-text.text-index c.as_slice.result.now c.loop-text.known.items c.push.new.self.items k (c.loop-text.invariant.known old are) (search rules) (search rules)
          (record { slots = c.in_ok-slots.ensures; tested = λ yes. absurd (cc (yes)) }) more;
      front = ap (λ l. take (length c.args.known.now.items) l) more ∙ front_kept c.args.known.now.items c.loop-text.known.items (k ∷ []) c.loop-text.invariant.front;
    }
