-- How the seats' tickets stand after each step.
use Rattle.std.proofs.Common.{◌≡◌, ◌≢◌, ℕ, ◌+◌, Bool, true, false, List, [], ◌∷◌, ◌++◌, set, sym, refl, ap, ◌∙◌, inl, inr, arith, Some, None}
use mathlib.Core.Option.{some}
use lib.ListN.{get_elem?}
use Rattle.turn_lock.specs.declared.board.View.{View}
use Rattle.turn_lock.specs.Grown.{Turning, Waits, holders, Turns}
use Rattle.turn_lock.specs.StepPlays.{waits, goes, spent}
use Rattle.turn_lock.proofs.SeatLemmas.{each_set, each_keep, each_more, each_join, apart_set, apart_keep, apart_split, apart_join, waiting_set, waiting_more}

pub not_true : (b : Bool) → (b ≡ true → ⊥) → b ≡ false
not_true true no_ = absurd (no_ refl)
not_true false no_ = refl

pub some_same : (a b : ℕ) → Some a ≡ Some b → a ≡ b
some_same a b e = cc

module _ {E F : Type 0} (serving next : ℕ) (views : List (View E F)) (id : ℕ) (v : View E F) (k : Turns serving next views) (at : get_elem? views id ≡ some v) where
  abbrev Line : View E F → Type 0
  Line u = Turning serving next u.ticket u.inside

  -- of the seats, only the one whose ticket is served may have the turn
  pub alone : v.ticket ≡ Some serving → (i : ℕ) (u : View E F) → i ≢ id → get_elem? views i ≡ some u → u.inside ≡ false
  alone mine i u ne e = not_true u.inside (λ turn. ne (k.apart i id u v serving e at ((k.turning i u e).served turn) mine))

  pub turns_set : (w : View E F) → w.ticket ≡ v.ticket → Line w → Turns serving next (set views id w)
  turns_set w same line = record {
    turning = each_keep Line views id w k.turning line;
    apart = apart_keep Waits views id v w k.apart at (λ n h. sym same ∙ h);
    queue = omega (arith, waiting_set views id v w at, ap holders same, k.queue);
  }

  pub turns_draw : v.ticket ≡ None → v.inside ≡ false → Turns serving (next + 1) (set views id (waits v next))
  turns_draw bare out = record {
    turning = each_set Line (λ u. Turning serving (next + 1) u.ticket u.inside) views id (waits v next) k.turning
        (λ i u ne e old. record { between = λ t is. let b = old.between t is in let b₀ = b.0 in let b₁ = b.1 in (omega arith, omega arith); served = old.served })
        (record { between = λ t is. let e : next ≡ t = some_same next t is in (omega (arith, k.queue), omega arith); served = λ turn. absurd (cc (turn, out)) });
    apart = apart_set Waits views id v (waits v next) k.apart at (λ n is. inr (λ j u e c. let same : next ≡ n = some_same next n is in let b = ((k.turning j u e).between n c).1 in omega arith));
    queue = omega (arith, waiting_set views id v (waits v next) at, ap holders bare, k.queue);
  }

  pub turns_serve : v.inside ≡ true → Turns (serving + 1) next (set views id (goes v))
  turns_serve turn = let mine : v.ticket ≡ Some serving = (k.turning id v at).served turn in record {
    turning = each_set Line (λ u. Turning (serving + 1) next u.ticket u.inside) views id (goes v) k.turning
        (λ i u ne e old. record {
          between = λ t is. let b = old.between t is in let b₀ = b.0 in let b₁ = b.1 in
              let other : t ≢ serving = λ same. ne (k.apart i id u v serving e at (is ∙ ap (λ (q : ℕ). Some q) same) mine) in (omega arith, b₁);
          served = λ inside. absurd (cc (inside, alone mine i u ne e));
        })
        (record { between = λ t is. absurd (cc (is)); served = λ inside. absurd (cc (inside)) });
    apart = apart_keep Waits views id v (goes v) k.apart at (λ n h. absurd (cc (h)));
    queue = omega (arith, waiting_set views id v (goes v) at, ap holders mine, k.queue);
  }

  -- a new seat has no ticket
  pub turns_split : (left right : View E F) → left.ticket ≡ v.ticket → Line left → right.ticket ≡ None → Line right → Turns serving next (set views id left ++ right ∷ [])
  turns_split left right same line bare line' = record {
    turning = each_more Line (set views id left) right (each_keep Line views id left k.turning line) line';
    apart = apart_split Waits views id v left right k.apart at (λ n h. sym same ∙ h) (λ n h. absurd (cc (h, bare))) (λ n _ h. cc (h, bare));
    queue = omega (arith, waiting_more (set views id left) right, waiting_set views id v left at, ap holders same, ap holders bare, k.queue);
  }

  pub turns_join : (other : ℕ) (both w : View E F) → (other ≡ id → ⊥) → get_elem? (set views id both) other ≡ some w → both.ticket ≡ v.ticket → Line both → w.ticket ≡ None
      → Turns serving next (set (set views id both) other spent)
  turns_join other both w apart there same line bare = record {
    turning = each_join Line views id other both spent k.turning line (record { between = λ t is. absurd (cc (is)); served = λ inside. absurd (cc (inside)) });
    apart = apart_join Waits views id other v both w spent k.apart at apart there (λ n h. inl (sym same ∙ h)) (λ n h. cc (h));
    queue = omega (arith, waiting_set (set views id both) other w spent there, waiting_set views id v both at, ap holders same, ap holders bare, k.queue);
  }
