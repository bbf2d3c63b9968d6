-- The worked examples hold: by computing.
use Rattle.std.proofs.Common.{refl}
use Rattle.analysis.specs.Interference.{interference, lawful, sum_largest}
use Rattle.analysis.specs.Work.{amount}
use Rattle.rules.specs.Bounds.{rebound}
use Rattle.rules.specs.Examples.{Examples}
use Rattle.rules.specs.Search.{least}

pub examples : Examples
unfolding amount interference lawful sum_largest least rebound
examples = record {
  amount_0 = refl;
  amount_1 = refl;
  amount_4 = refl;
  amount_5 = refl;
  amount_6 = refl;
  amount_8 = refl;
  house_shows = λ a b c. refl;
  response_4 = refl;
  response_3 = refl;
  deadline_5 = refl;
  deadline_4 = refl;
  deadline_total = refl;
  all_carry_total = refl;
  fifteen_enters = refl;
}
