use Rattle.std.proofs.Common.{◌≡◌, of_z, refl, rules, to_z, w64}
use Rattle.stamp_templates.proofs.between.may_hold_between.Goals as goal

pub returns-in_default : goal.returns-in_default
returns-in_default c = record {
  none = λ _ m stamp from to prints _.
      let least : to_z w64 (of_z w64 c.args.least) ≡ c.args.least = search rules in
      let greatest : to_z w64 (of_z w64 c.args.greatest) ≡ c.args.greatest = search rules in
      c.in_default.ensures.none refl m (stamp, prints) (rw least from) (rw greatest to);
}

pub returns-in_default-print_front : goal.returns-in_default-print_front
returns-in_default-print_front c = record { none = λ no m stamp from to prints. c.may_hold.ensures.none no m stamp prints }

pub returns-in_default-print_front-2 : goal.returns-in_default-print_front-2
returns-in_default-print_front-2 c = record { none = λ no m stamp from to prints. c.may_hold-in_default-print_front-2.ensures.none no m stamp prints }

pub returns : goal.returns
returns c = record {
  none = λ no m stamp from to prints.
      let least : to_z w64 (of_z w64 c.args.least) ≡ c.args.least = search rules in
      let greatest : to_z w64 (of_z w64 c.args.greatest) ≡ c.args.greatest = search rules in
      let from_is : to_z w64 (of_z w64 c.in-Some.from) ≡ c.in-Some.from = search rules in
      let to_is : to_z w64 (of_z w64 c.in-Some.to) ≡ c.in-Some.to = search rules in
      let first = rw from_is at c.in-Some-print_front.ensures.text in
      let last = rw to_is at c.in-Some-print_front-2.ensures.text in
      let both = c.in-Some.ensures.some m (stamp, prints) (rw least from) (rw greatest to) in
      c.may_lie_between.ensures no m stamp prints
      (c.texts_rise.ensures c.args.pattern _ m _ stamp both.0 first prints)
      (c.texts_rise.ensures c.args.pattern m _ stamp _ both.1 prints last);
}
