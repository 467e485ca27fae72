-- The board at the opening is read off the empty history.
use Rattle.std.proofs.Common.{◌≡◌, ℕ, zero, suc, ◌*◌, ◌<◌, cond, List, [], ◌∷◌, length, replicate, get_or, Option, None, inl, inr, refl, sym, ap, subst, ◌∙◌, arith}
use Rattle.std.specs.Prelude.{sum_by}
use Rattle.std.proofs.Math.Path.{fun_ext}
use Rattle.std.proofs.lemmas.Bool.{cases_lt, ne_eqb}
use Rattle.std.proofs.lemmas.List.{length-replicate, length-set, length-map, get_or-replicate, get_or-set_same, get_or-set_other, get_or_past}
use Rattle.std.proofs.lemmas.List.Folds.{sum_by-replicate}
use Rattle.sa_base.specs.declared.number.ThreadNo.{ThreadNo}
use Rattle.sa_spaces.specs.Workload.{WorkloadView, IsWorkload}
use Rattle.sa_links.specs.Lists.{Lists, list_at}
use Rattle.sa_devices.specs.Pages.{opening_pages}
use Rattle.sa_laws.specs.Readings.{Listed, first_listed}
use Rattle.sa_virtual.specs.Virtual.{opening}
use Rattle.sa_virtual.proofs.Opening.{opening_good, opening_below}
use Rattle.sa_vp_model.specs.declared.limits.TheConstants.{VIRTUALS}
use Rattle.sa_vp_model.specs.Board.{opened, empty, first_ready, no_lists}
use Rattle.sa_vp_model.specs.Mirror.{Own, Mirrors, IsBounded, AreLists, newest_first, rows, total}
use Rattle.sa_vp_model.specs.Run.{IsRead}

-- a table of one value that is also what is read past its end
all_are : {A : Type 0} (n : ℕ) (d : A) → ◌≡◌ {A = ℕ → A} (λ a. get_or (replicate n d) a d) (λ a. d)
all_are {A} n d = fun_ext (λ a. elim (cases_lt a n) [
  | inl below ↦ get_or-replicate n a d d below
  | inr past ↦ get_or_past (replicate n d) a d (omega (arith, past, length-replicate {A = A} n d))
])

empty_list : (n l : ℕ) → l < n → list_at (empty n).lists l ≡ []
empty_list n l below = get_or-replicate n l [] [] below

module _ (w : WorkloadView) (valid : IsWorkload w) where
  abbrev own : Own
  own = record {
    spare = 0;
    threads = replicate VIRTUALS None;
    steps = replicate VIRTUALS 0;
    ready = replicate (length w.spaces) (first_ready w.processors);
    work = replicate (length w.spaces) (empty w.processors);
    due = 0;
    blocked = replicate (length w.spaces) 0;
    lost = replicate (length w.spaces) 0;
    items = [];
  }

  many : length (empty w.processors).lists ≡ w.processors
  many = length-replicate {A = List ℕ} w.processors []

  first : (l : ℕ) → l < w.processors → list_at (first_ready w.processors).lists l ≡ newest_first (first_listed ∷ []) l
  first zero below = get_or-set_same (empty w.processors).lists 0 (0 ∷ []) [] (omega (arith, below, many))
  first (suc l) below = get_or-set_other (empty w.processors).lists 0 (suc l) (0 ∷ []) [] (λ e. cc) ∙ empty_list w.processors (suc l) below
      ∙ sym (ap (λ b. cond b (0 ∷ []) []) (ne_eqb 0 (suc l) (λ e. cc)))

  ready_at : (s : ℕ) → s < length w.spaces
      → AreLists w.processors (newest_first (get_or (replicate (length w.spaces) (first_listed ∷ [])) s [])) (rows own.ready s)
  ready_at s below =
      subst (λ (c : Lists). AreLists w.processors (newest_first (get_or (replicate (length w.spaces) (first_listed ∷ [])) s [])) c)
      (sym (get_or-replicate (length w.spaces) s (first_ready w.processors) no_lists below))
      (subst (λ (xs : List Listed). AreLists w.processors (newest_first xs) (first_ready w.processors))
      (sym (get_or-replicate (length w.spaces) s (first_listed ∷ []) [] below))
      (record { nodes = refl; many = length-set (empty w.processors).lists 0 (0 ∷ []) ∙ many; each = first }))

  work_at : (s : ℕ) → s < length w.spaces → AreLists w.processors (λ l. []) (rows own.work s)
  work_at s below =
      subst (AreLists w.processors (λ l. [])) (sym (get_or-replicate (length w.spaces) s (empty w.processors) no_lists below))
      (record { nodes = refl; many = many; each = empty_list w.processors })

  none_due : 0 ≡ total own.work
  none_due =
      let row = sum_by-replicate length w.processors [] in
      let all = sum_by-replicate (λ (c : Lists). sum_by length c.lists) (length w.spaces) (empty w.processors) in
      let zero' : sum_by length (empty w.processors).lists ≡ 0 = row ∙ omega arith in
      sym (all ∙ ap (λ n. length w.spaces * n) zero' ∙ omega arith)

  fits : Mirrors w (opening w) own
  fits = record {
    threads = all_are VIRTUALS None;
    steps = all_are VIRTUALS 0;
    ready = ready_at;
    work = work_at;
    blocked = λ s below. get_or-replicate (length w.spaces) s 0 0 below;
    due = none_due;
    numbered = record { once = λ n. omega arith; below = λ n past. refl };
    many_threads = length-replicate {A = Option ThreadNo} VIRTUALS None;
    many_steps = length-replicate {A = ℕ} VIRTUALS 0;
    many_ready = length-replicate (length w.spaces) (first_ready w.processors);
    many_work = length-replicate (length w.spaces) (empty w.processors);
    many_blocked = length-replicate {A = ℕ} (length w.spaces) 0;
    many_lost = length-replicate {A = ℕ} (length w.spaces) 0;
    many_pages = length-map w.spaces opening_pages;
  }

  none_at : (n a : ℕ) → ◌≡◌ {A = ℕ} (get_or (replicate n 0) a 0) 0
  none_at n a = ap (λ (f : ℕ → ℕ). f a) (all_are n 0)

  bounded : IsBounded (opening w) own
  bounded = record {
    io_count = omega arith;
    steps = λ a. omega (arith, none_at VIRTUALS a);
    blocked = λ s. omega (arith, none_at (length w.spaces) s);
    lost = λ s. omega (arith, none_at (length w.spaces) s);
    due = omega arith;
  }

  pub opened_is_read : IsRead w (opened w)
  opened_is_read = record {
    virtuals = opening w;
    own = own;
    is = refl;
    valid = valid;
    good = opening_good w valid;
    fits = fits;
    bounded = bounded;
    below = λ s k. omega (arith, opening_below w valid s k);
  }

  pub opened_virtuals : opened_is_read.virtuals ≡ opening w
  unfolding opened_is_read
  opened_virtuals = refl

  pub none_lost : (s : ℕ) → get_or (opened w).lost s 0 ≡ 0
  none_lost s = none_at (length w.spaces) s
