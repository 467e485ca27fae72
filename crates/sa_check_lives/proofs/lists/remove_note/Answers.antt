use Rattle.std.proofs.Common.{◌≡◌, sym, ◌∙◌, ap, subst, ◌++◌, suc, take, drop, map, add-one}
use Rattle.std.specs.Prelude.{filter, slice_set, slice_index_or}
use Rattle.sa_laws.specs.Record.{is_other_note}
use Rattle.sa_check_lives.proofs.RowLemmas.{changed-more}
use Rattle.sa_check_lives.proofs.lists.remove_note.Goals as goal

pub loop-i-preserved : goal.loop-i-preserved
loop-i-preserved c =
    let f = filter (is_other_note c.args.note) in
    let i = c.loop-i.i in
    let all = c.args.rows.now in
    let so_far : c.loop-i.rows ≡ map f (take i all) ++ drop i all = c.loop-i.invariant in
    let one : slice_set c.loop-i.rows i c.drop_note.new.row ≡ map f (take (suc i) all) ++ drop (suc i) all =
    ap (λ row. slice_set c.loop-i.rows i row) c.drop_note.ensures
    ∙ ap (λ rows. slice_set rows i (f (slice_index_or rows i c.index-rows-i.result))) so_far
    ∙ changed-more f all i c.index-rows-i.result c.loop-i-test.true in
    subst (λ n. slice_set c.loop-i.rows i c.drop_note.new.row ≡ map f (take n all) ++ drop n all) (sym (add-one i)) one
