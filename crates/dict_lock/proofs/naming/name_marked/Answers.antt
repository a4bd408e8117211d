use Rattle.std.proofs.Common.{rules, ◌++◌, ℕ, ap, sym, subst, ◌∙◌, length, slice_get, All}
use Rattle.turn_lock.specs.Words.{seen, number_of}
use Rattle.dict_core.specs.Fair.{IsFair}
use Rattle.plain_list.specs.Texts.{IsNew}
use Rattle.dict_lock.proofs.SharedLemmas.{prefix_more}
use Rattle.dict_lock.proofs.NamingLemmas.{all_among, prefix_at}
use Rattle.dict_lock.proofs.naming.name_marked.Goals as goal

pub name_each-named-requires : goal.name_each-named-requires
name_each-named-requires g c = let was = c.requires.marked in record {
  long = was.long;
  known = λ k n t a b real. ap (λ l. slice_get l n) c.take-turn.ensures.entries ∙ prefix_at (seen c.args.pass.now) (seen c.take-turn.new.self) n t c.take-turn.ensures.seen (was.known k n t a b real);
}

pub put-requires-clause-adds : goal.put-requires-clause-adds
put-requires-clause-adds g c = let texts = g.T.TextSlice.texts c.args.texts.now in let added = c.name_each-named.ensures.added in (
  added.rest,
  added.joins ∙ ap (λ l. l ++ added.rest) c.take-turn.ensures.entries,
  subst (λ (n : ℕ). All (IsFair n) added.rest) (sym c.take-turn.ensures.still.number) (all_among (IsFair (number_of c.args.pass.now)) texts added.rest c.requires.fair added.among),
)

pub returns-clause-pass : goal.returns-clause-pass
returns-clause-pass g c = let added = c.name_each-named.ensures.added in let take = c.take-turn.ensures in let put = c.put.ensures in
    let joins = added.joins ∙ ap (λ l. l ++ added.rest) take.entries in record {
      goes_on = record {
        still = search rules;
        ready = put.ready;
        seen_on = prefix_more (seen c.args.pass.now) (seen c.take-turn.new.self) (seen c.put.new.pass) added.rest take.seen (put.seen ∙ joins);
      };
      before = seen c.take-turn.new.self;
      rest = added.rest;
      front = take.seen;
      joins = put.seen ∙ joins;
      among = added.among;
      own = rw (sym take.own) (put.own added.rest joins);
    }

pub returns-clause-named : goal.returns-clause-named
returns-clause-named g c = let named = c.name_each-named.ensures.named in record {
  front = named.front;
  at = λ k n t a b. ap (λ l. slice_get l n) c.put.ensures.seen ∙ named.at k n t a b;
}

pub returns-clause-full : goal.returns-clause-full
returns-clause-full g c = λ count is. let refused = c.name_each-named.ensures.full count is in let put = c.put.ensures in record {
  text = refused.text;
  given = refused.given;
  absent = subst (λ l. IsNew l refused.text) (sym put.seen) refused.absent;
  full = record {
    all = refused.all ∙ ap length (sym put.seen);
    limit = λ a knows. refused.most ∙ (c.name_each-named.ensures.added.limit ∙ c.take-turn.ensures.fixed a (sym (put.still.about_is ∙ c.take-turn.ensures.still.about_is) ∙ knows));
  };
}
