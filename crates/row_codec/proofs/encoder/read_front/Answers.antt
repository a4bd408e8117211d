use Rattle.std.proofs.Common.{◌≤◌, length, sym, subst}
use Rattle.time_patterns.specs.Stamps.{HasStamp}
use Rattle.row_codec.specs.declared.encoder.Front.{Front}
use Rattle.row_codec.proofs.EncoderLemmas.{front_inside, front_micro, front_milli}
use Rattle.row_codec.proofs.encoder.read_front.Goals as goal

pub returns-then-micro : goal.returns-then-micro
returns-then-micro c =
    let line = c.args.line.now in
    record {
      stamp = λ version tells. subst (λ (f : Front). HasStamp version line f.pattern f.moment f.len) (sym c.front_of.ensures) (front_micro version line c.args.micro c.read_micro.result c.if-micro.true tells c.read_micro.ensures.some c.read_micro.ensures.none);
      inside = subst (λ (f : Front). f.len ≤ length line) (sym c.front_of.ensures) (front_inside 3 line c.read_micro.result c.read_micro.ensures.some);
    }

pub returns : goal.returns
returns c =
    let line = c.args.line.now in
    record {
      stamp = λ version tells. subst (λ (f : Front). HasStamp version line f.pattern f.moment f.len) (sym c.front_of-2.ensures) (front_milli version line c.args.micro c.read_stamp.result c.if-micro.false tells c.read_stamp.ensures.some c.read_stamp.ensures.none);
      inside = subst (λ (f : Front). f.len ≤ length line) (sym c.front_of-2.ensures) (front_inside 1 line c.read_stamp.result c.read_stamp.ensures.some);
    }
