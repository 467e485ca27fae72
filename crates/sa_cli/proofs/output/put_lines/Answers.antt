use Rattle.std.proofs.Common.{rules, ◌∙◌, [], refl}
use Rattle.sa_io.proofs.PieceLemmas.{out-none}
use Rattle.sa_lemmas.proofs.Results.{on_err}
use Rattle.sa_cli.proofs.TracePieces.{lines-out, lines-stopped, lines-all}
use Rattle.sa_cli.proofs.output.put_lines.Goals as goal

pub loop-rest-init : goal.loop-rest-init
loop-rest-init g c = record {
  out = record { lines = []; whole = refl; out = out-none (g.K.Sink.taken c.args.sink.now) c.args.pieces.now };
  counted = search rules;
}

pub returns-in_err-put-clause-err : goal.returns-in_err-put-clause-err
returns-in_err-put-clause-err g c =
    on_err c.from_residual.result
    (lines-stopped (g.K.Sink.taken c.args.sink.now) (g.K.Sink.taken c.loop-rest.sink)
    (g.K.Sink.taken c.put.new.sink) c.args.pieces.now c.args.items.now c.loop-rest.rest.now
    c.loop-rest.pieces c.as_slice.result.now _ (c.as_slice.ensures.value ∙ c.print_lines-count.ensures.text) c.loop-rest.invariant.out c.in_err-put.ensures.err)

pub loop-rest-preserved : goal.loop-rest-preserved
loop-rest-preserved g c = record {
  out =
      lines-out (g.K.Sink.taken c.args.sink.now) (g.K.Sink.taken c.loop-rest.sink)
      (g.K.Sink.taken c.put.new.sink) c.args.pieces.now c.args.items.now c.loop-rest.rest.now
      c.loop-rest.pieces c.as_slice.result.now _
      (c.as_slice.ensures.value ∙ c.print_lines-count.ensures.text) c.loop-rest.invariant.out _ _ c.split_at.ensures.back c.in_ok-put.ensures.ok;
  counted = search rules;
}

pub returns-clause-ok : goal.returns-clause-ok
returns-clause-ok g c =
    lines-all (g.K.Sink.taken c.args.sink.now) (g.K.Sink.taken c.loop-rest.sink) c.args.pieces.now c.args.items.now c.loop-rest.rest.now c.loop-rest.pieces
    c.loop-rest-test.ensures c.loop-rest.invariant.out
