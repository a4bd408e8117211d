-- Each step keeps the rule of the table.
use Rattle.std.proofs.Common.{◌≡◌, ◌≢◌, ◌⊎◌, ℕ, zero, suc, ◌+◌, ◌%◌, ◌^◌, ◌<◌, ◌≤◌, eqb, true, false, List, [], ◌∷◌, ◌++◌, length, drop, set, sym, refl, ap, ◌∙◌, subst, ⊎_elim, inl, inr, arith, Option, Some, None, All, length-append, mod-eq_of_lt, slice_index, get_or}
use mathlib.Core.Logic.{dite}
use native.Mathlib.Decide.{ℕ_discrete}
use mathlib.Core.Option.{some}
use mathlib.Core.Option as maybe
use lib.ListN.{get_elem?, length-map}
use prog.Atomic.{either}
use Rattle.atomic_table.specs.Table.{State, Me, Act, keeps, takes, gives, Valid, homes_after, carried_after, step, Allows, Splits, Joins}
use Rattle.atomic_table.proofs.Lists.{set_here, set_again, exchanged}
use Rattle.turn_lock.specs.declared.board.About.{About}
use Rattle.turn_lock.specs.declared.board.View.{View}
use Rattle.turn_lock.specs.History.{Mark, entries_of, unmarked}
use Rattle.turn_lock.specs.Seats.{entries_seen}
use Rattle.turn_lock.specs.Grown.{Each, IsOut, Kept}
use Rattle.turn_lock.specs.StepPlays.{marked, waits, enters, publishes, goes, learns, numbers, fresh, unnumbered, joined, spent, longer, Agrees, MayAdd, drew, looked, published, served, learned, numbered}
use Rattle.turn_lock.proofs.FrontLemmas.{prefix_self, prefix_trans, prefix_length, longer_left, longer_right, longer_front, drop_front}
use Rattle.turn_lock.proofs.SeatLemmas.{index_lt, each_back, each_less, each_unjoin}
use Rattle.turn_lock.proofs.TurnLemmas.{alone, turns_set, turns_draw, turns_serve, turns_split, turns_join, some_same}
use Rattle.turn_lock.proofs.SeenLemmas.{shown_set, shown_grow, shown_split, shown_join, shown_learn}
use Rattle.turn_lock.proofs.DealtLemmas.{stands_far, stands_front, at_marked, dealt_set, dealt_grow, dealt_number, dealt_split, dealt_join, dealt_learn, none_has}

module _ {E F : Type 0} where
  -- what a seat publishes, where its entries go on with some more
  pub published_as : (v : View E F) (es more_ : List E) → es ≡ entries_of v.seen ++ more_ → publishes es v ≡ record v { seen = v.seen ++ marked v.number more_ }
  published_as v es more_ is = ap (λ (l : List E). record v { seen = v.seen ++ marked v.number l })
      (ap (drop (length v.seen)) is ∙ drop_front v.seen (entries_of v.seen) more_ (length-map v.seen (λ (x : Mark E). x.0)))

module _ {V E F : Type 0} (entries : V → List E) (fixed : V → F) (may : ℕ → E → Type 0) (base : About F) (opening : List E) where
  abbrev St : Type 0
  St = State (Option V) (View E F)

  abbrev M : Type 0
  M = Me (Option V) (View E F)

  abbrev Homes : Type 0
  Homes = List (maybe.Option (Option V))

  abbrev Rule : St → Type 0
  Rule = Kept entries fixed may base opening

  abbrev numerals : ℕ → ℕ → ℕ → ℕ → List ℕ
  numerals next serving len count = next ∷ serving ∷ len ∷ count ∷ []

  -- nothing changes
  again : (s : St) (k : Rule s) (id : ℕ) (v : View E F) → get_elem? s.views id ≡ some v → Rule record { words = numerals k.next k.serving (length k.history) k.count; homes = s.homes; views = set s.views id v }
  again s k id v at = subst (λ (vs : List (View E F)). Rule record { words = numerals k.next k.serving (length k.history) k.count; homes = s.homes; views = vs }) (sym (set_again s.views id v at)) record {
    next = k.next;
    serving = k.serving;
    history = k.history;
    count = k.count;
    words = refl;
    small = k.small;
    begins = k.begins;
    turns = k.turns;
    home = k.home;
    shown = k.shown;
    dealt = k.dealt;
  }

  pub draws : (slots id : ℕ) (me : M) (old : ℕ) → me.0.ticket ≡ None → me.0.inside ≡ false → old < 18446744073709551615
      → Allows Rule slots id me 0 (λ n. either (eqb n old) (old + 1) n) (drew (step slots 0 old (old + 1) maybe.none) me)
  draws slots id me old bare out lt s k deep at fits =
      let then : ℕ → M → Type 0 = drew (step slots 0 old (old + 1) maybe.none) me in
      let R : List ℕ → ℕ → View E F → Act (Option V) → Type 0 = λ ws x w a. Rule record { words = set ws 0 x; homes = homes_after s.homes me.1 a; views = set s.views id w } in
      let G : List ℕ → ℕ → Type 0 = λ ws n. (w : View E F) × (a : Act (Option V)) × Valid s.homes me.1 a × R ws (either (eqb n old) (old + 1) n) w a × then n (w, carried_after me.1 a) in
      subst (λ (ws : List ℕ). G ws (slice_index ws 0)) (sym k.words)
      (exchanged k.next old (old + 1) (λ x. (w : View E F) × (a : Act (Option V)) × Valid s.homes me.1 a × R (numerals k.next k.serving (length k.history) k.count) x w a × then k.next (w, carried_after me.1 a))
      (λ hit. let w : View E F = waits me.0 k.next in (
        w,
        keeps,
        tt,
        record {
          next = k.next + 1;
          serving = k.serving;
          history = k.history;
          count = k.count;
          words = ap (λ (z : ℕ). numerals (z + 1) k.serving (length k.history) k.count) (sym hit);
          small = omega arith;
          begins = k.begins;
          turns = turns_draw k.serving k.next s.views id me.0 k.turns at bare out;
          home = λ all. k.home (each_back IsOut s.views id me.0 w at (λ o. o) all);
          shown = shown_set base k.history s.views id me.0 k.shown at w (k.shown.seeing id me.0 at) (k.shown.knowing id me.0 at) (λ p. p);
          dealt = dealt_set may base k.count k.history s.views id me.0 k.dealt at w (k.dealt.owning id me.0 at) (λ _ c. c) (λ _ c. c) (λ _ c. c);
        },
        ((λ _. refl), λ miss. absurd (miss hit)),
      ))
      (λ miss. (me.0, keeps, tt, again s k id me.0 at, ((λ hit. absurd (miss hit)), λ _. refl))))

  -- in a turn that begins, all seats are out
  all_out : (s : St) (k : Rule s) (id : ℕ) (v : View E F) → get_elem? s.views id ≡ some v → v.ticket ≡ Some k.serving → v.inside ≡ false → Each IsOut s.views
  all_out s k id v at mine out i u e = dite (ℕ_discrete i id)
      (λ same. subst IsOut (mathlib.Core.Option.some-injective v u (sym at ∙ (sym (ap (λ j. get_elem? s.views j) same) ∙ e))) out)
      (λ ne. alone k.serving k.next s.views id v k.turns at mine i u ne e)

  pub looks : (slots id : ℕ) (me : M) (ticket : ℕ) → me.0.inside ≡ false → me.0.ticket ≡ Some ticket → me.0.number ≢ None
      → Allows Rule slots id me 1 (λ n. n) (looked entries fixed may (step slots 1 0 0 maybe.none) me)
  looks slots id me ticket out waits worker s k deep at fits =
      let then : ℕ → M → Type 0 = looked entries fixed may (step slots 1 0 0 maybe.none) me in
      let G : List ℕ → ℕ → Type 0 = λ ws n. (w : View E F) × (a : Act (Option V)) × Valid s.homes me.1 a × Rule (record { words = set ws 1 n; homes = homes_after s.homes me.1 a; views = set s.views id w }) × then n (w, carried_after me.1 a) in
      subst (λ (ws : List ℕ). G ws (slice_index ws 1)) (sym k.words)
      (dite (ℕ_discrete k.serving ticket)
      (λ hit. let v : View E F = me.0 in let h : List (Mark E) = k.history in let w : View E F = enters v h in
      let mine : v.ticket ≡ Some k.serving = waits ∙ ap (λ (z : ℕ). Some z) (sym hit) in
      let y = k.home (all_out s k id v at mine out) in let sees = k.shown.seeing id v at in let knows = k.shown.knowing id v at in let owns = k.dealt.owning id v at in
      let further : length v.seen ≤ length h = prefix_length v.seen h sees.front in (
        w,
        takes 0 (Some y.0),
        y.1,
        record {
          next = k.next;
          serving = k.serving;
          history = h;
          count = k.count;
          words = refl;
          small = k.small;
          begins = k.begins;
          turns = turns_set k.serving k.next s.views id v k.turns at w refl (record { between = (k.turns.turning id v at).between; served = λ _. mine });
          home = λ all. absurd (cc (all id w (set_here s.views id w (index_lt s.views id v at))));
          shown = shown_set base h s.views id v k.shown at w (record { front = prefix_self h; other = sees.other; whole = λ _. refl })
              (record { is = λ a is. ((knows.is a is).0, k.dealt.opened) }) (λ _. inl refl);
          dealt = dealt_set may base k.count h s.views id v k.dealt at w
              (record {
                bound = owns.bound;
                alone = owns.alone;
                mine = λ n is. stands_far h n (length v.seen) (length h) (owns.mine n is) further;
                theirs = owns.theirs;
                past = λ n is. stands_far h n (length v.seen) (length h) (owns.past n is) further;
                making = owns.making;
                keeper = owns.keeper;
                worker = λ _. worker;
              })
              (λ _ c. c) (λ _ c. c) (λ _ c. c);
        },
        λ t is. (
          (λ _. (
            y.0,
            h,
            refl,
            (
              sees.front,
              y.2,
              (λ a here. y.3 ∙ ap (λ (b : About F). b.fixed) (sym (knows.is a here).0)),
              owns.mine,
              λ a j x here le there. let same = (knows.is a here).0 in let start = ap (λ (b : About F). b.start) same in let first = ap (λ (b : About F). b.first) same in
                  let added = k.dealt.added j x (omega arith) there in let low = added.2 in let high = added.3 in let room = k.dealt.room.1 in (added.0, added.1, omega arith, omega arith, added.4),
            ),
          )),
          λ miss. absurd (miss (hit ∙ some_same ticket t (sym waits ∙ is))),
        ),
      ))
      (λ miss. (me.0, keeps, tt, again s k id me.0 at, λ t is. ((λ hit. absurd (miss (hit ∙ some_same t ticket (sym is ∙ waits)))), λ _. refl))))

  some_number : (o : Option ℕ) → o ≢ None → (n : ℕ) × (o ≡ Some n)
  some_number None no_ = absurd (no_ refl)
  some_number (Some n) no_ = (n, refl)

  or_at : (l : List E) (i : ℕ) (e : E) → get_elem? l i ≡ some e → get_or l i e ≡ e
  or_at [] i e at = refl
  or_at (x ∷ xs) zero e at = mathlib.Core.Option.some-injective x e at
  or_at (x ∷ xs) (suc i) e at = or_at xs i e at

  pub all_at : (P : E → Type 0) (l : List E) (i : ℕ) (e : E) → All P l → get_elem? l i ≡ some e → P e
  all_at P l i e all at = subst P (or_at l i e at) (all i e (index_lt l i e at))

  pub publishes_step : (slots id : ℕ) (me : M) (es : List E) (new : ℕ) → me.0.inside ≡ true → me.0.gone ≡ None → new ≡ length es → MayAdd may es me.0
      → Allows Rule slots id me 2 (λ _. new) (published es (step slots 2 new 0 maybe.none) me)
  publishes_step slots id me es new turn bare len add s k deep at fits =
      let then : ℕ → M → Type 0 = published es (step slots 2 new 0 maybe.none) me in
      let G : List ℕ → ℕ → Type 0 = λ ws n. (w : View E F) × (a : Act (Option V)) × Valid s.homes me.1 a × Rule (record { words = set ws 2 new; homes = homes_after s.homes me.1 a; views = set s.views id w }) × then n (w, carried_after me.1 a) in
      let v : View E F = me.0 in let h : List (Mark E) = k.history in let more_ : List E = add.0 in let m : List (Mark E) = marked v.number more_ in
      let sees = k.shown.seeing id v at in let knows = k.shown.knowing id v at in let owns = k.dealt.owning id v at in
      let whole : v.seen ≡ h = sees.whole turn in let w : View E F = record v { seen = v.seen ++ m } in let n = some_number v.number (owns.worker turn) in
      let now : v.seen ++ m ≡ h ++ m = ap (λ (l : List (Mark E)). l ++ m) whole in
      let long : new ≡ length (h ++ m) = omega (arith, len, ap length add.1, length-append (entries_of v.seen) more_, length-map v.seen (λ (x : Mark E). x.0), length-append h m, length-map more_ (λ (e : E). let r : Mark E = (e, v.number) in r), ap length whole) in
      subst (λ (ws : List ℕ). G ws (slice_index ws 2)) (sym k.words) (
        w,
        keeps,
        tt,
        record {
          next = k.next;
          serving = k.serving;
          history = h ++ m;
          count = k.count;
          words = ap (λ (z : ℕ). numerals k.next k.serving z k.count) long;
          small = k.small;
          begins = prefix_trans (unmarked opening) h (h ++ m) k.begins (m, refl);
          turns = turns_set k.serving k.next s.views id v k.turns at w refl (k.turns.turning id v at);
          home = λ all. absurd (cc (all id w (set_here s.views id w (index_lt s.views id v at)), turn));
          shown = shown_grow base h s.views id v k.shown at w m (alone k.serving k.next s.views id v k.turns at ((k.turns.turning id v at).served turn)) now sees.other refl whole;
          dealt = dealt_grow may base k.count h s.views id v k.dealt at (v.seen ++ m) m n.0 n.1 bare
              (λ i x there. let a = at_marked v.number more_ i x there in (a.0 ∙ n.1, all_at (may n.0) more_ i x.0 (add.2 n.0 n.1) a.1)) now;
        },
        ap (λ (u : View E F). let r : M = (u, me.1) in r) (sym (published_as v es more_ add.1)),
      )

  pub serves : (id : ℕ) (me : M) (y : V) → me.0.inside ≡ true → me.1 ≡ (0, Some y) ∷ [] → entries y ≡ entries_seen me → me.0.about ≢ None → Agrees fixed me.0 y
      → Allows Rule 1 id me 1 (λ n. (n + 1) % 2 ^ 64) (served (step 1 1 1 0 maybe.none) me)
  serves id me y turn carried holds_ known agrees s k deep at fits =
      let then : ℕ → M → Type 0 = served (step 1 1 1 0 maybe.none) me in
      let G : List ℕ → ℕ → List (ℕ × Option V) → Type 0 = λ ws n cs. (w : View E F) × (a : Act (Option V)) × Valid s.homes cs a × Rule (record { words = set ws 1 ((n + 1) % 2 ^ 64); homes = homes_after s.homes cs a; views = set s.views id w }) × then n (w, carried_after cs a) in
      let v : View E F = me.0 in let h : List (Mark E) = k.history in let w : View E F = goes v in
      let sees = k.shown.seeing id v at in let knows = k.shown.knowing id v at in let owns = k.dealt.owning id v at in
      let mine = (k.turns.turning id v at).served turn in let below : k.serving < k.next = ((k.turns.turning id v at).between k.serving mine).1 in
      let small = k.small in let whole : v.seen ≡ h = sees.whole turn in
      subst (λ (cs : List (ℕ × Option V)). G s.words (slice_index s.words 1) cs) (sym carried)
      (subst (λ (ws : List ℕ). G ws (slice_index ws 1) ((0, Some y) ∷ [])) (sym k.words) (
        w,
        gives,
        tt,
        record {
          next = k.next;
          serving = k.serving + 1;
          history = h;
          count = k.count;
          words = ap (λ (z : ℕ). numerals k.next z (length h) k.count) (mod-eq_of_lt (omega arith));
          small = small;
          begins = k.begins;
          turns = turns_serve k.serving k.next s.views id v k.turns at turn;
          home = λ _. (
            y,
            set_here s.homes 0 (some (Some y)) (omega arith),
            holds_ ∙ ap (λ (l : List (Mark E)). entries_of l) whole,
            same_fixed v.about known agrees (λ a is. (knows.is a is).0),
          );
          shown = shown_set base h s.views id v k.shown at w (record { front = sees.front; other = sees.other; whole = λ inside. absurd (cc (inside)) }) (record { is = knows.is }) (λ p. p);
          dealt = dealt_set may base k.count h s.views id v k.dealt at w
              (record { bound = owns.bound; alone = owns.alone; mine = owns.mine; theirs = owns.theirs; past = owns.past; making = owns.making; keeper = owns.keeper; worker = λ inside. absurd (cc (inside)) })
              (λ _ c. c) (λ _ c. c) (λ _ c. c);
        },
        refl,
      ))
    where
      same_fixed : (o : Option (About F)) → o ≢ None → ((a : About F) → o ≡ Some a → fixed y ≡ a.fixed) → ((a : About F) → o ≡ Some a → a ≡ base) → fixed y ≡ base.fixed
      same_fixed None no_ f g = absurd (no_ refl)
      same_fixed (Some a) no_ f g = f a refl ∙ ap (λ (b : About F). b.fixed) (g a refl)

  pub learns_step : (slots id : ℕ) (me : M) → me.0.inside ≡ false → Allows Rule slots id me 1 (λ n. n) (learned (step slots 1 0 0 maybe.none) me)
  learns_step slots id me out s k deep at fits =
      let then : ℕ → M → Type 0 = learned (step slots 1 0 0 maybe.none) me in
      let G : List ℕ → ℕ → Type 0 = λ ws n. (w : View E F) × (a : Act (Option V)) × Valid s.homes me.1 a × Rule (record { words = set ws 1 n; homes = homes_after s.homes me.1 a; views = set s.views id w }) × then n (w, carried_after me.1 a) in
      let v : View E F = me.0 in let h : List (Mark E) = k.history in let w : View E F = learns v in let l : List (Mark E) = longer v.seen v.also in
      let sees = k.shown.seeing id v at in let owns = k.dealt.owning id v at in
      let left = longer_left v.seen v.also h sees.front sees.other in let right = longer_right v.seen v.also h sees.front sees.other in let front = longer_front v.seen v.also h sees.front sees.other in
      subst (λ (ws : List ℕ). G ws (slice_index ws 1)) (sym k.words) (
        w,
        keeps,
        tt,
        record {
          next = k.next;
          serving = k.serving;
          history = h;
          count = k.count;
          words = refl;
          small = k.small;
          begins = k.begins;
          turns = turns_set k.serving k.next s.views id v k.turns at w refl (k.turns.turning id v at);
          home = λ all. k.home (each_back IsOut s.views id v w at (λ o. o) all);
          shown = shown_learn base h s.views id v k.shown at out;
          dealt = dealt_learn may base k.count h s.views id v k.dealt at out (prefix_length v.seen l left) (prefix_length v.also l right);
        },
        (
          refl,
          left,
          right,
          (λ n c. stands_front l h n (length v.seen) front (⊎_elim (owns.mine n) (owns.past n) c)),
          λ n is. stands_front l h n (length v.also) front (owns.theirs n is),
        ),
      )

  pub numbers_step : (slots id : ℕ) (me : M) (m : ℕ) → me.0.inside ≡ false → me.0.number ≡ None → me.0.made ≡ Some m → m < 4294967296
      → Allows Rule slots id me 3 (λ n. (n + 1) % 2 ^ 64) (numbered (step slots 3 1 0 maybe.none) me)
  numbers_step slots id me m out bare made lt s k deep at fits =
      let then : ℕ → M → Type 0 = numbered (step slots 3 1 0 maybe.none) me in
      let G : List ℕ → ℕ → Type 0 = λ ws n. (w : View E F) × (a : Act (Option V)) × Valid s.homes me.1 a × Rule (record { words = set ws 3 ((n + 1) % 2 ^ 64); homes = homes_after s.homes me.1 a; views = set s.views id w }) × then n (w, carried_after me.1 a) in
      let v : View E F = me.0 in let h : List (Mark E) = k.history in let w : View E F = numbers k.count v in
      let sees = k.shown.seeing id v at in let knows = k.shown.knowing id v at in let now = (k.dealt.owning id v at).making m made in let low = k.dealt.low in
      subst (λ (ws : List ℕ). G ws (slice_index ws 3)) (sym k.words) (
        w,
        keeps,
        tt,
        record {
          next = k.next;
          serving = k.serving;
          history = h;
          count = k.count + 1;
          words = ap (λ (z : ℕ). numerals k.next k.serving (length h) z) (mod-eq_of_lt (omega arith));
          small = k.small;
          begins = k.begins;
          turns = turns_set k.serving k.next s.views id v k.turns at w refl (k.turns.turning id v at);
          home = λ all. k.home (each_back IsOut s.views id v w at (λ o. o) all);
          shown = shown_set base h s.views id v k.shown at w (record { front = sees.front; other = sees.other; whole = sees.whole }) (record { is = knows.is }) (λ p. p);
          dealt = dealt_number may base k.count h s.views id v k.dealt at m made bare out lt;
        },
        (
          refl,
          (λ a n is made'. let same = (knows.is a is).0 in let first = ap (λ (b : About F). b.first) same in let e = some_same m n (sym made ∙ made') in omega arith),
          λ j x there. none_has may base k.count h s.views id v k.dealt at j x (Rattle.turn_lock.proofs.FrontLemmas.prefix_at v.seen h j x sees.front there),
        ),
      )

  splits_step : (id : ℕ) (v : View E F) (o p : Option ℕ) → ((o ≡ None) × (p ≡ v.number)) ⊎ ((o ≡ v.number) × (p ≡ None) × (v.inside ≡ false)) → Splits Rule id v (record v { number = p }) (fresh o v)
  splits_step id v o p how s k at = let left : View E F = record v { number = p } in let right : View E F = fresh o v in let h : List (Mark E) = k.history in
      let sees = k.shown.seeing id v at in let knows = k.shown.knowing id v at in let line = k.turns.turning id v at in record {
        next = k.next;
        serving = k.serving;
        history = h;
        count = k.count;
        words = k.words;
        small = k.small;
        begins = k.begins;
        turns = turns_split k.serving k.next s.views id v k.turns at left right refl (record { between = line.between; served = line.served }) refl
            (record { between = λ t is. absurd (cc (is)); served = λ turn. absurd (cc (turn)) });
        home = λ all. k.home (each_back IsOut s.views id v left at (λ o. o) (each_less IsOut (set s.views id left) right all));
        shown = shown_split base h s.views id v k.shown at left right (record { front = sees.front; other = sees.other; whole = sees.whole }) (record { is = knows.is })
            (record { front = sees.front; other = (h, refl); whole = λ turn. absurd (cc (turn)) }) (record { is = knows.is }) (λ p. inl p);
        dealt = dealt_split may base k.count h s.views id v k.dealt at o p how;
      }

  -- a maker gives its number to a new seat
  pub deals_step : (id : ℕ) (v : View E F) → v.inside ≡ false → Splits Rule id v (unnumbered v) (fresh v.number v)
  deals_step id v out = splits_step id v v.number None (inr (refl, refl, out))

  pub copies_step : (id : ℕ) (v : View E F) → Splits Rule id v v (fresh None v)
  copies_step id v = splits_step id v None v.number (inl (refl, refl))

  pub joins_step : (id other : ℕ) (v w : View E F) → w.ticket ≡ None → w.inside ≡ false → v.gone ≡ None → w.gone ≡ None → w.ended ≡ [] → v.also ≡ [] → w.also ≡ [] → (w.number ≢ None → v.made ≢ None) → Joins Rule id v other w (joined v w) spent
  joins_step id other v w bare out gone gone' ended also also' kept s k at apart there = let h : List (Mark E) = k.history in let both : View E F = joined v w in
      let there' : get_elem? s.views other ≡ some w = sym (Rattle.atomic_table.proofs.Lists.set_else s.views id other both apart) ∙ there in let line = k.turns.turning id v at in record {
        next = k.next;
        serving = k.serving;
        history = h;
        count = k.count;
        words = k.words;
        small = k.small;
        begins = k.begins;
        turns = turns_join k.serving k.next s.views id v k.turns at other both w apart there refl (record { between = line.between; served = line.served }) bare;
        home = λ all. k.home (each_unjoin IsOut s.views id other v both w spent at there (λ o. o) out all);
        shown = shown_join base h s.views id v k.shown at other w apart there (k.shown.seeing other w there') also also';
        dealt = dealt_join may base k.count h s.views id v k.dealt at other w apart there gone gone' ended kept;
      }
