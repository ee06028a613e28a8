use Rattle.ox_order.specs.RangeLaws.{is_from-later, is_up_to-earlier, in_range-between}
use Rattle.ox_order.proofs.laws.ranges_have_no_gaps.Goals as goal

pub returns-clause-low_end : goal.returns-clause-low_end
returns-clause-low_end c = is_from-later

pub returns-clause-high_end : goal.returns-clause-high_end
returns-clause-high_end c = is_up_to-earlier

pub returns-clause-between : goal.returns-clause-between
returns-clause-between c = in_range-between
