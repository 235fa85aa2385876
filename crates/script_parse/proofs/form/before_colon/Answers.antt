use Rattle.std.proofs.Common.{arith}
use Rattle.std.proofs.lemmas.Str.Pattern.{strip_suffix_char}
use Rattle.script_parse.proofs.Colon.{colon_is}
use Rattle.script_parse.proofs.form.before_colon.Goals as goal

pub returns : goal.returns
returns c = colon_is c.args.word.now c.strip_suffix.result (strip_suffix_char 58 c.args.word.now c.strip_suffix.result c.strip_suffix.ensures.cases (omega arith))
