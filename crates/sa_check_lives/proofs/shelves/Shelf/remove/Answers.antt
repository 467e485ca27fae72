use Rattle.std.proofs.Common.{rules, ◌≡◌, ◌∙◌, ◌==◌, ℕ, not, ap, None}
use Rattle.std.specs.Prelude.{filter}
use Rattle.std.proofs.lemmas.Fn.{filter_same}
use Rattle.sa_lemmas.specs.Function.{put}
use Rattle.sa_laws.specs.Life.{Life}
use Rattle.sa_check_lives.specs.Table.{lives_among}
use Rattle.sa_check_lives.proofs.PlaceLemmas.{taken-out}
use Rattle.sa_check_lives.proofs.shelves.Shelf.remove.Goals as goal

pub returns : goal.returns
returns c =
    let same : c.retain.new.self.items ≡ filter (λ (e : ℕ × Life). not (e.0 == c.args.a.0)) c.self.inside.lives.items =
    filter_same _ _ _ (λ x b f' k. search rules) _ _ c.retain.ensures.filtered in
    ap lives_among same ∙ taken-out c.self.inside.lives.items c.args.a.0 ∙ ap (λ xs. put (lives_among xs) c.args.a.0 None) c.self.view_is
