use Rattle.std.proofs.Common.{sym, subst}
use Rattle.time_patterns.specs.Stamps.{HasStamp}
use Rattle.row_codec.specs.Steps.{front_of}
use Rattle.row_codec.proofs.EncoderLemmas.{front_micro, front_milli}
use Rattle.archive_core.proofs.message.mark_in.Goals as goal

pub returns-then-micro : goal.returns-then-micro
returns-then-micro c = λ version tells.
    let line = c.args.message.now in
    let front = front_of c.read_micro.result in
    let has = front_micro version line c.args.micro c.read_micro.result c.if-micro.true tells c.read_micro.ensures.some c.read_micro.ensures.none in
    (front.len, subst (λ k. HasStamp version line k c.mark_of.result.moment front.len) (sym c.mark_of.ensures.pattern) (subst (λ m. HasStamp version line front.pattern m front.len) (sym c.mark_of.ensures.moment) has))

pub returns : goal.returns
returns c = λ version tells.
    let line = c.args.message.now in
    let front = front_of c.read_stamp.result in
    let has = front_milli version line c.args.micro c.read_stamp.result c.if-micro.false tells c.read_stamp.ensures.some c.read_stamp.ensures.none in
    (front.len, subst (λ k. HasStamp version line k c.mark_of-2.result.moment front.len) (sym c.mark_of-2.ensures.pattern) (subst (λ m. HasStamp version line front.pattern m front.len) (sym c.mark_of-2.ensures.moment) has))
