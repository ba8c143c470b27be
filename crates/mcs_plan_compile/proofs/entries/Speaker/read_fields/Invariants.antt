use Rattle.std.proofs.Common.{◌≡◌, drop, string_bytes}
use Rattle.mcs_plan_layout.specs.Laid.{laid_said}
use Rattle.mcs_plan_compile.specs.Entries.{fields_more}
use Rattle.mcs_plan_compile.proofs.entries.Speaker.read_fields.Given as goal

abbrev pub invariant-loop-field : goal.invariant-loop-field
invariant-loop-field l =
    fields_more (laid_said l.self.laid.now) l.self.thread l.fields l.fn.words (string_bytes l.fn.to)
    ≡ fields_more (laid_said l.self.laid.now) l.self.thread (drop l.field-index l.fields) l.words (string_bytes l.to)
