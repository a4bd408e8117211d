-- What a loop of writes has done.
use Rattle.std.proofs.Common.{◌≡◌, refl, sym, ◌∙◌, ap, subst, List, [], ℕ, ◌++◌, Option, Some, None, append_assoc, take, drop, option_map}
use Rattle.std.proofs.lemmas.List.{take-append-drop, append-nil}
use Rattle.sink_pieces.specs.Output.{Grew, GrewByFront, Moves, Gathers}

-- the sink took what stands before the rest
pub record Wrote (old new : Option (List ℕ)) (text rest : List ℕ) : Type 0 where
  pub front : List ℕ
  pub splits : text ≡ front ++ rest
  pub grew : Grew old new front

-- what was taken in two parts was taken as one
pub Grew-append : (old mid new : Option (List ℕ)) (a b : List ℕ) → Grew old mid a → Grew mid new b → Grew old new (a ++ b)
Grew-append None mid new a b first then = then ∙ ap (option_map (λ w. w ++ b)) first
Grew-append (Some w) mid new a b first then = then ∙ (ap (option_map (λ w. w ++ b)) first ∙ ap Some (append_assoc w a b))

pub Wrote-more : (old mid new : Option (List ℕ)) (text rest : List ℕ) (n : ℕ) → Wrote old mid text rest → Grew mid new (take n rest) → Wrote old new text (drop n rest)
Wrote-more old mid new text rest n wrote grew = record {
  front = wrote.front ++ take n rest;
  splits = wrote.splits ∙ (ap (λ r. wrote.front ++ r) (sym (take-append-drop n rest)) ∙ sym (append_assoc wrote.front (take n rest) (drop n rest)));
  grew = Grew-append old mid new wrote.front (take n rest) wrote.grew grew;
}

-- nothing was written
pub Grew-nothing : (old : Option (List ℕ)) → Grew old old []
Grew-nothing None = refl
Grew-nothing (Some w) = ap Some (sym (append-nil w))

pub Moves-nothing : (old : Option (List ℕ)) (gathered : List ℕ) → Moves old old gathered gathered
Moves-nothing old gathered = record { front = []; splits = refl; grew = Grew-nothing old }

pub Moves-all : (old new : Option (List ℕ)) (gathered rest : List ℕ) → Grew old new gathered → rest ≡ [] → Moves old new gathered rest
Moves-all old new gathered rest grew none = record { front = gathered; splits = sym (append-nil gathered) ∙ ap (λ r. gathered ++ r) (sym none); grew = grew }

-- the text begins
pub Gathers-nothing : (start : Option (List ℕ)) (gathered : List ℕ) → gathered ≡ [] → Gathers start start gathered []
Gathers-nothing start gathered none = record { front = []; splits = sym none; grew = Grew-nothing start }

-- more is gathered
pub Gathers-more : (start now : Option (List ℕ)) (gathered all text more : List ℕ) → all ≡ gathered ++ more → Gathers start now gathered text → Gathers start now all (text ++ more)
Gathers-more start now gathered all text more is g = record { front = g.front; splits = ap (λ t. t ++ more) g.splits ∙ (append_assoc g.front gathered more ∙ ap (λ t. g.front ++ t) (sym is)); grew = g.grew }

-- some of what is gathered goes out
pub Gathers-moves : (start now new : Option (List ℕ)) (gathered rest text : List ℕ) → Gathers start now gathered text → Moves now new gathered rest → Gathers start new rest text
Gathers-moves start now new gathered rest text g m = record { front = g.front ++ m.front; splits = g.splits ∙ (ap (λ t. g.front ++ t) m.splits ∙ sym (append_assoc g.front m.front rest)); grew = Grew-append start now new g.front m.front g.grew m.grew }

-- all of it went out
pub Gathers-all : (start now new : Option (List ℕ)) (gathered text : List ℕ) → Gathers start now gathered text → Grew now new gathered → Grew start new text
Gathers-all start now new gathered text g grew = subst (λ t. Grew start new t) (sym g.splits) (Grew-append start now new g.front gathered g.grew grew)

-- a front of it went out
pub Gathers-front : (start now new : Option (List ℕ)) (gathered text : List ℕ) → Gathers start now gathered text → GrewByFront now new gathered → GrewByFront start new text
Gathers-front start now new gathered text g f = (g.front ++ f.0, f.1, g.splits ∙ (ap (λ t. g.front ++ t) f.2 ∙ sym (append_assoc g.front f.0 f.1)), Grew-append start now new g.front f.0 g.grew f.3)

-- nothing more went out
pub Gathers-kept : (start now : Option (List ℕ)) (gathered text : List ℕ) → Gathers start now gathered text → GrewByFront start now text
Gathers-kept start now gathered text g = (g.front, gathered, g.splits, g.grew)
