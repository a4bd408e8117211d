-- How what a disk tells goes on while it is only read.
use Rattle.std.proofs.Common.{◌≡◌, inl, ℕ, List, [], ◌++◌, Option, Some, None, option_map, refl, sym, ◌∙◌, ap, arith}
use Rattle.std.proofs.lemmas.List.{append-nil, append_assoc}
use Rattle.std.proofs.lemmas.List.Elements.{All-append, All-nil, All-weaker}
use Rattle.log_seams.specs.Disk.{DiskState, ReadsSuch, Rests}
use Rattle.log_seams.proofs.MomentLemmas.{rests_on}

pub none_added : (old : Option (List (ℕ × ℕ))) → old ≡ option_map (λ ranges. ranges ++ []) old
none_added None = refl
none_added (Some ranges) = ap Some (sym (append-nil ranges))

pub two_added : (old mid new : Option (List (ℕ × ℕ))) (a b : List (ℕ × ℕ)) → mid ≡ option_map (λ ranges. ranges ++ a) old → new ≡ option_map (λ ranges. ranges ++ b) mid
    → new ≡ option_map (λ ranges. ranges ++ (a ++ b)) old
two_added None mid new a b one two = two ∙ ap (option_map (λ ranges. ranges ++ b)) one
two_added (Some ranges) mid new a b one two = two ∙ ap (option_map (λ ranges. ranges ++ b)) one ∙ ap Some (append_assoc ranges a b)

pub rests_same : (d : DiskState) → Rests d d
rests_same d = record {
  seen = refl;
  no_more = λ c is. is;
  no_fewer = λ c is. is;
  time = record { later = omega arith; nothing_else = λ t c le is. inl is; keeps = λ t c le is. is };
}

pub such_none : (P : ℕ × ℕ → Type 0) (d : DiskState) → ReadsSuch P d d
such_none P d = record { rests = rests_same d; more = []; added = none_added d.ranges; each = All-nil P }

pub such_on : (P : ℕ × ℕ → Type 0) (old mid new : DiskState) → ReadsSuch P old mid → ReadsSuch P mid new → ReadsSuch P old new
such_on P old mid new one two = record {
  rests = rests_on old mid new one.rests two.rests;
  more = one.more ++ two.more;
  added = two_added old.ranges mid.ranges new.ranges one.more two.more one.added two.added;
  each = All-append P one.more two.more one.each two.each;
}

pub such_weaker : (P Q : ℕ × ℕ → Type 0) (old new : DiskState) → ((r : ℕ × ℕ) → P r → Q r) → ReadsSuch P old new → ReadsSuch Q old new
such_weaker P Q old new weaker reads = record { rests = reads.rests; more = reads.more; added = reads.added; each = All-weaker P Q weaker reads.more reads.each }
