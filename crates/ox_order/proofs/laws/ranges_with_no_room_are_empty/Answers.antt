use Rattle.ox_order.specs.RangeLaws.{in_range-no_room, in_range-no_room_past}
use Rattle.ox_order.proofs.laws.ranges_with_no_room_are_empty.Goals as goal

pub returns-clause-at : goal.returns-clause-at
returns-clause-at c = in_range-no_room

pub returns-clause-past : goal.returns-clause-past
returns-clause-past c = in_range-no_room_past
