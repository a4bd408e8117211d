use Rattle.std.proofs.Common.{◌≡◌, ◌-◌, ◌*◌, ℕ, List, length, take, drop, refl, sym, ap, ◌∙◌, rules}
use Rattle.std.specs.List.{flat_map}
use Rattle.std.proofs.lemmas.List.{take_rest}
use Rattle.record_format.specs.Lists.{four_bytes}
use Rattle.segment_format.specs.Layout.{fixed_bytes, fixed_of}
use Rattle.segment_format.proofs.FrontLemmas.{front_fixed, front_types, front_words, begins_so}
use Rattle.segment_format.proofs.UniqueLemmas.{fixed_once}
use Rattle.segment_format.proofs.head.Head.begins.Goals as goal

pub returns-in_default-clause-no : goal.returns-in_default-clause-no
returns-in_default-clause-no c = λ begins.
    absurd (c.in_default.ensures.none refl (fixed_of c.args.self.now) c.requires.head.fixed (front_fixed c.args.payload.now c.args.self.now _ _ refl refl begins))

pub returns-then-not-is-clause-no : goal.returns-then-not-is-clause-no
returns-then-not-is-clause-no c = λ begins.
    let same : c.in-Some.fixed ≡ fixed_of c.args.self.now =
    fixed_once c.in-Some.fixed (fixed_of c.args.self.now) c.in-Some.ensures.fits c.requires.head.fixed
    (sym c.in-Some.ensures.spelled ∙ front_fixed c.args.payload.now c.args.self.now _ _ refl refl begins) in
    let here : c.in-Some.fixed ≡ c.fixed.result = same ∙ sym c.fixed.ensures in
    let yes = c.is.ensures.no here in
    absurd (search (rules, yes))

pub returns-then-are_numbers-clause-yes : goal.returns-then-are_numbers-clause-yes
returns-then-are_numbers-clause-yes c = λ yes.
    let payload : List ℕ = c.args.payload.now in
    let rest : take (length payload - 45) (drop 45 payload) ≡ drop 45 payload = take_rest payload 45 in
    let here : c.in-Some.fixed ≡ c.fixed.result = c.is.ensures.yes (search rules) in
    let fixed : take 45 payload ≡ fixed_bytes (fixed_of c.args.self.now) = c.in-Some.ensures.spelled ∙ ap fixed_bytes (here ∙ c.fixed.ensures) in
    let n : ℕ = 4 * c.len.result in
    let m : ℕ = 4 * c.len-2.result in
    let types : take n (drop 45 payload) ≡ flat_map four_bytes c.args.self.now.types =
    ap (take n) (sym rest) ∙ sym c.split_at.ensures.front ∙ c.are_numbers.ensures.yes (search rules) ∙ ap (flat_map four_bytes) c.as_slice.ensures in
    let words : take m (drop n (drop 45 payload)) ≡ flat_map four_bytes c.args.self.now.words =
    ap (λ (l : List ℕ). take m (drop n l)) (sym rest) ∙ ap (take m) (sym c.split_at.ensures.back) ∙ sym c.split_at-2.ensures.front
    ∙ c.are_numbers-then-are_numbers.ensures.yes yes ∙ ap (flat_map four_bytes) c.as_slice-then-are_numbers.ensures in
    begins_so payload c.args.self.now n m (ap (λ (k : ℕ). 4 * k) c.len.ensures) (ap (λ (k : ℕ). 4 * k) c.len-2.ensures) fixed types words

pub returns-then-are_numbers-clause-no : goal.returns-then-are_numbers-clause-no
returns-then-are_numbers-clause-no c = λ begins.
    let payload : List ℕ = c.args.payload.now in
    let rest : take (length payload - 45) (drop 45 payload) ≡ drop 45 payload = take_rest payload 45 in
    let n : ℕ = 4 * c.len.result in
    let m : ℕ = 4 * c.len-2.result in
    c.are_numbers-then-are_numbers.ensures.no (
    c.split_at-2.ensures.front ∙ ap (take m) c.split_at.ensures.back ∙ ap (λ (l : List ℕ). take m (drop n l)) rest
    ∙ front_words payload c.args.self.now n m (ap (λ (k : ℕ). 4 * k) c.len.ensures) (ap (λ (k : ℕ). 4 * k) c.len-2.ensures) begins
    ∙ ap (flat_map four_bytes) (sym c.as_slice-then-are_numbers.ensures))

pub returns-else-are_numbers-clause-no : goal.returns-else-are_numbers-clause-no
returns-else-are_numbers-clause-no c = λ begins.
    let payload : List ℕ = c.args.payload.now in
    let rest : take (length payload - 45) (drop 45 payload) ≡ drop 45 payload = take_rest payload 45 in
    let n : ℕ = 4 * c.len.result in
    c.are_numbers.ensures.no (
    c.split_at.ensures.front ∙ ap (take n) rest
    ∙ front_types payload c.args.self.now n _ (ap (λ (k : ℕ). 4 * k) c.len.ensures) refl begins
    ∙ ap (flat_map four_bytes) (sym c.as_slice.ensures))
