use Rattle.std.proofs.Common.{◌/◌, arith}
use Rattle.std.proofs.lemmas.List.{length-append}
use Rattle.time_patterns.specs.Digits.{byte_text}
use Rattle.time_patterns.specs.Forms.{fraction_text}
use Rattle.time_patterns.specs.Steps.{digits_of}
use Rattle.time_patterns.proofs.PrintedLemmas.{few_digits_of}
use Rattle.time_patterns.proofs.TailLemmas.{short_tail, units_below}
use Rattle.time_patterns.proofs.form.Form.print.Goals as goal

pub write_fraction-at-requires : goal.write_fraction-at-requires
write_fraction-at-requires c =
    let form = c.args.self.now in
    let x = c.args.time.microsecond / form.unit in
    record {
      digits = few_digits_of (digits_of form.fraction) form.unit c.requires.sound.unit;
      number = units_below form c.requires.sound c.args.time.microsecond c.args.time.microsecond_in;
      room = omega (arith, c.print-at.ensures.end, short_tail form c.requires.sound x, length-append (fraction_text form.fraction x) (byte_text form.close));
    }

pub write_byte-requires : goal.write_byte-requires
write_byte-requires c =
    let form = c.args.self.now in
    let x = c.args.time.microsecond / form.unit in
    omega (arith, c.print-at.ensures.end, c.write_fraction-at.ensures.end, short_tail form c.requires.sound x, length-append (fraction_text form.fraction x) (byte_text form.close))
