use Rattle.std.proofs.Common.{ℕ, None, get_or, ap, ◌∙◌}
use Rattle.std.proofs.lemmas.List.{get_or_default}
use Rattle.sa_kernel.proofs.parts.Parts.life.Goals as goal

pub returns : goal.returns
returns g c =
    let lives = c.args.self.now.lives.items in
    c.index.ensures ∙ ap (λ (i : ℕ). get_or lives i c.index.result.now) c.from.ensures ∙ get_or_default lives c.args.p.0 c.index.result.now None c.requires
