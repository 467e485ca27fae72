use Rattle.std.proofs.Common.{ℕ, map, ap, ◌∙◌}
use Rattle.std.specs.Prelude.{◌≡◌, length, Ok, string_bytes}
use Rattle.std.specs.Vec.Iter.{into_iter_items, into_iter_len}
use Rattle.std.proofs.lemmas.Iterator.Adapters.{YieldsList-from_vec, YieldsList-from_skip, fact_from_collect}
use Rattle.sa_io.proofs.words.Words.after_name.Goals as goal

pub returns : goal.returns
returns c =
    let args = c.args.args in
    let road = YieldsList-from_skip 1 (YieldsList-from_vec (into_iter_items args) (ap into_iter_items c.skip.ensures.source)
    (ap into_iter_len c.skip.ensures.source ∙ args.rest.ok.0)) c.skip.ensures.count in
    ap (map string_bytes) (fact_from_collect {E = ℕ} (λ xs v. (v.items ≡ xs) × (v.len ≡ length xs)) (Ok c.in_ok-list.list) c.in_ok-list.ensures.ran road).0
