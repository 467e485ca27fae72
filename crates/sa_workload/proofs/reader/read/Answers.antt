use Rattle.sa_workload.proofs.whole.Whole.{answers, call_answers}
use Rattle.sa_workload.proofs.reader.read.Goals as goal

pub returns : goal.returns
returns c =
    let a = call_answers (answers c.args.bytes.now) c.read_versions.result c.read_versions.ensures in
    record { ok = a.ok; bad = a.bad; text = a.text; refused = a.refused }
