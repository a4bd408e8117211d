use Rattle.std.proofs.Common.{refl}
use Rattle.token_rules.specs.Tokens.{is_token_byte, is_digit, is_letter, is_hexadecimal}
use Rattle.token_rules.proofs.WindowLemmas.{tells_later}
use Rattle.token_rules.proofs.window.moved.Goals as goal

pub returns-clause-shows : goal.returns-clause-shows
unfolding is_token_byte
returns-clause-shows c =
    let body = c.args.body.now in
    let early = c.args.window.at in
    let at = c.args.at in
    let (tokens, digits, letters, hexadecimals) = c.requires.shows in (
      tells_later is_token_byte refl body early at _ _ c.requires.later.0 c.requires.end tokens c.moved_down.ensures.kept c.moved_down.ensures.above,
      tells_later is_digit refl body early at _ _ c.requires.later.0 c.requires.end digits c.moved_down-2.ensures.kept c.moved_down-2.ensures.above,
      tells_later is_letter refl body early at _ _ c.requires.later.0 c.requires.end letters c.moved_down-3.ensures.kept c.moved_down-3.ensures.above,
      tells_later is_hexadecimal refl body early at _ _ c.requires.later.0 c.requires.end hexadecimals c.moved_down-4.ensures.kept c.moved_down-4.ensures.above,
    )
