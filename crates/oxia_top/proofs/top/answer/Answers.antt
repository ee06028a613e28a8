use Rattle.std.proofs.Common.{arith}
use Rattle.ox_schedule.specs.Schedule.{SpellsSchedule}
use Rattle.oxia_top.specs.Report.{blocks_of, events_of}
use Rattle.oxia_top.proofs.ScheduleLemmas.{all_there, all_lawful}
use Rattle.oxia_top.proofs.top.answer.Goals as goal

pub returns-in-Ok-report-clause-text : goal.returns-in-Ok-report-clause-text
returns-in-Ok-report-clause-text g c =
    let spelt : SpellsSchedule c.in-Ok.bytes c.in-Ok-read_schedule.schedule = rw c.as_slice.ensures at c.in-Ok-read_schedule.ensures.found in
    record {
      schedule = c.in-Ok-read_schedule.schedule;
      bytes = c.in-Ok.bytes;
      read = c.in-Ok.ensures.read;
      spelt = spelt;
      told = c.in-Ok-report.ensures;
      legal = c.law_legal.ensures (blocks_of c.in-Ok-read_schedule.schedule.first) (events_of c.in-Ok-read_schedule.schedule)
          (all_there c.in-Ok-read_schedule.schedule.events (c.law_places.ensures.events c.in-Ok-read_schedule.schedule spelt.valid))
          (all_lawful c.law_shard_is_machine.ensures c.in-Ok-read_schedule.schedule.events (c.law_encodable.ensures c.in-Ok.bytes c.in-Ok-read_schedule.schedule spelt (omega (arith, c.in-Ok.ensures.read.short))));
    }
