use Rattle.std.proofs.Common.{subst}
use Rattle.std.proofs.lemmas.List.{take_rest}
use Rattle.logtype_text.specs.Encoded.{IsEncoded}
use Rattle.row_codec.proofs.encoder.Encoder.read.Goals as goal

pub returns : goal.returns
returns c = λ version tells.
    let line = c.args.line.now in
    let front = c.read_front-self.result in
    record {
      stamped = c.read_front-self.ensures.stamp version tells;
      inside = c.read_front-self.ensures.inside;
      encoded = subst (λ l. IsEncoded l c.encode_body.new.text.items c.encode_body.new.codes.items c.encode_body.new.words.items) (take_rest line front.len) c.in_ok-encode_body.ensures;
    }
