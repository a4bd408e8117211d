use Rattle.logtype_text.proofs.OneList.{one_list_of_parts, each_variable_is_a_part}
use Rattle.logtype_text.proofs.laws.one_list_of_parts.Goals as goal

pub returns : goal.returns
returns c = record { one = one_list_of_parts c.one_word.ensures; all = each_variable_is_a_part }
