use Rattle.subquery_filter.proofs.numbers.kind_bits.Goals as goal

pub returns : goal.returns
returns c = λ coded. record {
  whole = c.bits_of_kind.ensures coded;
  decimal = c.bits_of_kind-2.ensures coded;
  word = c.bits_of_kind-3.ensures coded;
}
