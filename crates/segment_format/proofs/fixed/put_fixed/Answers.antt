use Rattle.std.proofs.Common.{◌≡◌, ◌++◌, ◌∷◌, [], ℕ, List, ap, ◌∙◌, to_z, of_z, to_z-of_z}
use Rattle.std.specs.Int.{w64}
use Rattle.std.proofs.lemmas.Result.{on_ok_weaker}
use Rattle.record_format.specs.Lists.{four_bytes}
use Rattle.segment_format.specs.Layout.{eight_bytes, moment_bytes, flags, fixed_bytes}
use Rattle.segment_format.proofs.FixedLemmas.{put_before}
use Rattle.segment_format.proofs.fixed.put_fixed.Goals as goal

pub returns : goal.returns
unfolding fixed_bytes
returns c =
    let f = c.args.fixed.now in
    let o : List ℕ = c.args.out.now.items in
    let o1 = c.put_number.new.out.items in
    let o2 = c.put_long.new.out.items in
    let o3 = c.put_number-2.new.out.items in
    let o4 = c.push.new.self.items in
    let o5 = c.put_moment.new.out.items in
    let o6 = c.put_moment-2.new.out.items in
    let o7 = c.put_number-3.new.out.items in
    let o8 = c.put_number-4.new.out.items in
    let b : ℕ = flags f.last f.ended f.stamped in
    let e4 : o4 ≡ o3 ++ (b ∷ []) = c.in_ok-push.ensures.items ∙ ap (λ (x : ℕ). o3 ++ (x ∷ [])) c.flags_byte.ensures in
    let least : moment_bytes (to_z w64 (of_z w64 f.least)) ≡ moment_bytes f.least = ap moment_bytes (to_z-of_z {w = w64} {z = f.least} c.requires.least) in
    let greatest : moment_bytes (to_z w64 (of_z w64 f.greatest)) ≡ moment_bytes f.greatest = ap moment_bytes (to_z-of_z {w = w64} {z = f.greatest} c.requires.greatest) in
    on_ok_weaker c.put_number-5.result (λ e9.
    let r8 = put_before o7 (four_bytes f.words) (four_bytes f.variables) c.in_ok-put_number-4.ensures e9 in
    let r7 = put_before o6 (four_bytes f.types) _ c.in_ok-put_number-3.ensures r8 in
    let r6 = put_before o5 (moment_bytes f.greatest) _ (c.in_ok-put_moment-2.ensures ∙ ap (λ (l : List ℕ). o5 ++ l) greatest) r7 in
    let r5 = put_before o4 (moment_bytes f.least) _ (c.in_ok-put_moment.ensures ∙ ap (λ (l : List ℕ). o4 ++ l) least) r6 in
    let r4 = put_before o3 (b ∷ []) _ e4 r5 in
    let r3 = put_before o2 (four_bytes f.rows) _ c.in_ok-put_number-2.ensures r4 in
    let r2 = put_before o1 (eight_bytes f.first) _ c.in_ok-put_long.ensures r3 in
    put_before o (four_bytes f.file) _ c.in_ok-put_number.ensures r2)
    c.put_number-5.ensures
