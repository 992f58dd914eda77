use Rattle.std.proofs.Common.{subst, sym, Bool}
use Rattle.std.specs.Prelude.{IfOk}
use Rattle.mx_base.specs.declared.object_name.ObjectName.{ObjectName}
use Rattle.mx_folder.specs.Reading.{Reads}
use Rattle.mx_open.specs.Deciding.{Decides}
use Rattle.mx_open.proofs.objects.reads.Goals as goal

pub returns-in-Timeline : goal.returns-in-Timeline
returns-in-Timeline c objects is = subst (λ (name : ObjectName). IfOk c.reads_as_timeline.result (λ (b : Bool). Decides b (Reads objects name c.args.bytes.now))) (sym c.in-Timeline.is) (c.reads_as_timeline.ensures objects)

pub returns-in-Metadata : goal.returns-in-Metadata
returns-in-Metadata c objects is = subst (λ (name : ObjectName). IfOk c.reads_as_metadata.result (λ (b : Bool). Decides b (Reads objects name c.args.bytes.now))) (sym c.in-Metadata.is) (c.reads_as_metadata.ensures objects)

pub returns-in-Base : goal.returns-in-Base
returns-in-Base c objects is = subst (λ (name : ObjectName). IfOk c.reads_as_base.result (λ (b : Bool). Decides b (Reads objects name c.args.bytes.now))) (sym c.in-Base.is) (c.reads_as_base.ensures objects c.in-Base.shard is)
