use Rattle.std.proofs.Common.{ℕ, Option, None, replicate, ap, ◌∙◌, rules}
use Rattle.sa_base.specs.declared.number.ActNo.{ActNo}
use Rattle.sa_vp.proofs.start.opening_tables.Goals as goal

pub returns : goal.returns
returns c = record {
  placed =
      c.in_ok-vec.ensures.items_if_clones_equal (λ y same. search rules)
      ∙ ap (λ (n : ℕ). replicate {A = Option ActNo} n None) c.from.ensures;
  threads = c.in_ok-vec-2.ensures.items_if_clones_equal (λ y same. search rules);
  steps = c.in_ok-vec-3.ensures.items_if_clones_equal (λ y same. same);
  blocked = c.in_ok-vec-4.ensures.items_if_clones_equal (λ y same. same);
  lost = c.in_ok-vec-5.ensures.items_if_clones_equal (λ y same. same);
}
