-- What keeps the lengths of a kernel's lists keeps what is said of them.
use Rattle.std.proofs.Common.{◌≡◌, ℕ, ◌≤◌, sym, subst, length}
use Rattle.sa_base.specs.declared.limits.TheConstants.{MAX_PROCESSORS, MAX_SPACES}
use Rattle.sa_kernel_model.specs.State.{KernelState}
use Rattle.sa_kernel_model.specs.Sound.{HasSizes}

-- the lengths of a kernel's lists
pub record Sizes : Type 0 where
  pub lives : ℕ
  pub owners : ℕ
  pub aims : ℕ
  pub lines : ℕ
  pub marks : ℕ
  pub demands : ℕ
  pub untold : ℕ
  pub pages : ℕ
  pub priorities : ℕ
  pub taken : ℕ

module _ {C : Type 0} where
  abbrev pub sizes_of : KernelState C → Sizes
  sizes_of k = record {
    lives = length k.lives;
    owners = length k.assign.owners;
    aims = length k.assign.aims;
    lines = length k.assign.lines;
    marks = length k.assign.marks;
    demands = length k.demands;
    untold = length k.untold;
    pages = length k.pages;
    priorities = length k.fixed.priorities;
    taken = length k.taken;
  }

  pub sizes-kept : (k m : KernelState C) → sizes_of m ≡ sizes_of k → HasSizes k → HasSizes m
  sizes-kept k m kept sizes = record {
    some_processor = subst (λ (n : Sizes). 1 ≤ n.lives) (sym kept) sizes.some_processor;
    few_processors = subst (λ (n : Sizes). n.lives ≤ MAX_PROCESSORS) (sym kept) sizes.few_processors;
    owners = subst (λ (n : Sizes). n.owners ≡ n.lives) (sym kept) sizes.owners;
    aims = subst (λ (n : Sizes). n.aims ≡ n.lives) (sym kept) sizes.aims;
    lines = subst (λ (n : Sizes). n.lines ≡ n.lives) (sym kept) sizes.lines;
    marks = subst (λ (n : Sizes). n.marks ≡ n.lives) (sym kept) sizes.marks;
    some_space = subst (λ (n : Sizes). 1 ≤ n.demands) (sym kept) sizes.some_space;
    few_spaces = subst (λ (n : Sizes). n.demands ≤ MAX_SPACES) (sym kept) sizes.few_spaces;
    untold = subst (λ (n : Sizes). n.untold ≡ n.demands) (sym kept) sizes.untold;
    pages = subst (λ (n : Sizes). n.pages ≡ n.demands) (sym kept) sizes.pages;
    priorities = subst (λ (n : Sizes). n.priorities ≡ n.demands) (sym kept) sizes.priorities;
    taken = subst (λ (n : Sizes). n.taken ≡ MAX_SPACES) (sym kept) sizes.taken;
  }
