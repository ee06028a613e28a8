-- The order of added entries is total.
use Rattle.std.specs.Cmp.{IsTotalOrder, on_total, then_total}
use Rattle.std.specs.Cmp.Lexicographic.{nat_list_cmp_total}
use Rattle.ox_types.specs.Order.{bytes_cmp}
use Rattle.ox_types.specs.OrderLaws.{key_total}
use Rattle.ox_ops.specs.declared.write.IndexEntry.{IndexEntry}
use Rattle.ox_index.specs.declared.added.Added.{Added}
use Rattle.ox_index.specs.Order.{entry_cmp, added_cmp}

pub name_total : IsTotalOrder bytes_cmp
name_total = nat_list_cmp_total

pub entry_total : IsTotalOrder entry_cmp
entry_total = then_total (on_total (λ (e : IndexEntry). e.name) name_total) (on_total (λ (e : IndexEntry). e.key) key_total)

pub added_total : IsTotalOrder added_cmp
added_total = then_total (on_total (λ (a : Added). a.entry) entry_total) (on_total (λ (a : Added). a.key) key_total)
