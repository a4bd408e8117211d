use Rattle.std.proofs.Common.{List, ℕ}
use Rattle.dict_lock.specs.Cache.{Keeps, IsSeen, HoldsFront}
use Rattle.dict_lock.specs.StepsOfNaming.{Grows, NamesFront}
use Rattle.dict_lock.proofs.naming.remember.Given as goal

abbrev pub invariant-loop-place : goal.invariant-loop-place
invariant-loop-place g l = let texts = g.T.TextSlice.texts l.texts in record {
  kept : Keeps l.initial.cache l.cache;
  grows : Grows l.initial.cache l.cache texts;
  seen : (seen : List (List ℕ)) → IsSeen l.initial.cache seen → NamesFront seen l.numbers texts → IsSeen l.cache seen;
  held : HoldsFront l.cache texts l.place;
}
