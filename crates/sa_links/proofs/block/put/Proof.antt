-- `put` meets its contract: a walk of its MIR by hand.
use mathlib.Core.Path.{◌≡◌, refl, sym, ap, subst, ◌∙◌}
use Prim.Native.Nat.{ℕ, ◌+◌, ◌*◌, ◌≤◌, ◌<◌}
use native.Mathlib.Omega.{arith}
use mathlib.Core.List.{List, [], ◌∷◌, ◌++◌}
use lib.ListN.{length, get_or, set}
use seplogic.Ra.Ura.{Ura}
use base.Fraction.{full_share}
use mir.Syntax.{Fn, named}
use mir.MapTy.{inst_fn}
use mir.Val.{Val, vunit, vptr}
use base.Logic.{SProp, ent, sep}
use base.Fml.{Lft, GName, Share, ftrue, fat, flft, fobs, fbor}
use prog.Wp.{Env, Calls, Loops, WpFn, Tables}
use types.Logic.{Logic}
use contract.Monad.{fact}
use contract.Running.{tables, tables_of}
use sound.WpLaws.{WpFn-mono}
use types.Kit.{Item, ⋆, ‵, ◌⊛◌, some, given, at_ret, ◌$◌, ◌∵◌, !, qed, by, move, keep, drop, use1, use2, split, join, pick, learn, rewrite, fsplit, fsplit3, fjoin, fjoin3, feq_i, feq_l, suffices, frame, done}
use types.Part.{whole, sub}
use types.Run.{store, stop, hop, fld, from, unit_lit, of_opd, assigns_last, first, blocks, exec, returns, enter}
use types.ByLocal.{alloc_all, pass_all, free_all, look_at, look_in_at, take_at, give_at, get, sets, env}
use types.SemTy.{Body as Borrowed}
use denote.Exit.{yes, no}
use denote.RattleType.{owns}
use denote.Memory.{part_at, mem}
use denote.Array.{Array}
use denote.Param.{layout}
use denote.RawPtr.{Ptr, block_ptr}
use denote.Ref.{MutBor, MutRef}
use denote.Builtin.{RefMutOf, unit}
use denote.Signature.{plain}
use denote.Steps.{nothing}
use denote.Triple.Carry.{spared}
use denote.Triple.Clauses.{Clauses, Ended, closing}
use denote.Triple.Entry.{on_entry}
use denote.Triple.Spec.{Meets, triple_of}
use denote.Triple.Table.{entered, run_framed}
use denote.Triple.Walked.{needs, Stays, stay_dropped, stay_ref, walk_of, ends_at, Goes-dropped, Goes-ref, walk_Meets}
use Rattle.std.specs.Ptr.{ptr_add}
use Rattle.std.specs.Vec.{with_item}
use Rattle.std.proofs.RcSteps.{word, word-Good}
use Rattle.std.proofs.VecSteps.El.{El, el_x, elτ, el_own, el_d, el_len, el_cap, el_items, el_ok, R, Vr, sz, Good, args}
use Rattle.std.proofs.VecSteps.Facts.{last_fact, and_fact, Says-All}
use Rattle.std.proofs.VecSteps.Opens.{vec_opens, vec_closes}
use Rattle.std.proofs.VecSteps.Rows.{el_out, el_in}
use Rattle.std.proofs.VecSteps.Shapes.{after}
use Rattle.sa_links.specs.Slot.{IsSlot, index_of}
use Rattle.sa_links.proofs.Memory.{Pl, word_had, tells, Beside, one_out, one_in}
use Rattle.sa_links.specs.contracts.block.put.Key.{name as #self}
use Rattle.sa_links.proofs.block.put.Statement as stated
use Rattle.sa_links.proofs.block.put.Code as code

module _ (E : El) where
  abbrev function : Fn
  function = inst_fn (args E) code.function

  abbrev ended : Ended
  ended =
      record {
        signature = record {
          lifetimes = 1;
          outlives = [];
          params = RefMutOf (0 ∷ []) tt (plain (λ _. Vr E)) (λ _. tt) ∷ plain (λ _. Pl E) ∷ plain (λ _. R E) ∷ [];
          result = plain (λ _. unit);
        };
        kept = (yes, (no, (no, tt)));
      }

  abbrev stayed : Stays ended.signature.params ended.kept
  stayed = (stay_ref (0 ∷ []) tt (plain (λ _. Vr E)), (stay_dropped (plain (λ _. Pl E)) no, (stay_dropped (plain (λ _. R E)) no, tt)))

  abbrev Asks : el_d E → (Pl E).Denot → Type 0
  Asks d slot = IsSlot (R E) d.ptr (length d.items) slot.ptr

  abbrev at : el_d E → (Pl E).Denot → ℕ
  at d slot = index_of (R E) d.ptr slot.ptr

  abbrev spec : {M : Type 1} {𝓤 : Ura M} (𝓛 : Logic 𝓤) → Clauses 𝓤 ended
  spec {𝓤 = 𝓤} 𝓛 κs a = record {
    ghost = Unit {0};
    requires = λ _. fact 𝓤 (Asks a.0.now a.1.0);
    ensures = λ _ r w. sep 𝓤 (fact 𝓤 (w.0.now.items ≡ set a.0.now.items (at a.0.now a.1.0) a.1.1.0)) (fact 𝓤 (w.0.now.ptr ≡ a.0.now.ptr));
  }

module _ (E : El) {M : Type 1} {𝓤 : Ura M} (𝓛 : Logic 𝓤) (C : Calls 𝓤 𝓛.H) (Λ : Loops 𝓤 𝓛.H) (κ : Lft) (q : Share) (rb ro : ℕ) (γ : GName) (h : el_d E)
    (p : (Pl E).Denot) (y : el_x E) (us0 us1 us2 : List Val) where
  open 𝓛 use {H, A}

  abbrev self : MutBor (el_d E)
  self = record { ref_ptr = (rb, ro); ghost_name = γ; now = h }

  abbrev bound : (walk_of 𝓛 (ended E) (stayed E) (spec E 𝓛)).Ghost
  bound = (((κ, tt), (q, tt), tt, (self, (p, (y, tt))), (us0, (us1, (us2, tt)))), tt)

  abbrev Post : Val → SProp 𝓤
  Post = (walk_of 𝓛 (ended E) (stayed E) (spec E 𝓛)).post bound

  abbrev n : ℕ
  n = el_len E h

  abbrev c : ℕ
  c = el_cap E h

  abbrev xs : List (el_x E)
  xs = el_items E h

  abbrev s : ℕ
  s = sz E

  abbrev i : ℕ
  i = at E h p

  exits : us0 ≡ vptr rb ro ∷ []
      → ent 𝓤 (⋆ 𝓛 (‵ (fobs γ ((Vr E).coded.code (with_item h i y))) ∷ ‵ (fbor κ (Borrowed (mem (Vr E)) rb ro γ)) ∷ ‵ (flft κ q) ∷ [])) (Post vunit)
  exits passed =
      let new = with_item h i y in
      qed 𝓛 (‵ (fobs γ ((Vr E).coded.code new)) ∷ ‵ (fbor κ (Borrowed (mem (Vr E)) rb ro γ)) ∷ ‵ (flft κ q) ∷ []) ∵
      suffices ! _ (ends_at 𝓛 (ended E) (stayed E) (spec E 𝓛) bound vunit tt (new, (tt, (tt, tt))) (tt, (tt, (tt, tt)))) $ Says-All !
      (and_fact 𝓤 refl (last_fact 𝓤 refl)) $
      nothing ! $ move ! (3 ∷ 0 ∷ []) $ join ! $ frame ! $ feq_i ! (List Val) us0
      (vptr rb ro ∷ []) passed $ fjoin3 ! $ nothing ! $ nothing ! $ fjoin ! $ nothing ! $ fjoin ! $ move ! (1 ∷ 0 ∷ []) $ fjoin ! $
      feq_i ! (List Val) (vunit ∷ []) (vunit ∷ []) refl $ move ! (1 ∷ 0 ∷ []) $ done !

  abbrev Had : Val → List (Item 𝓤)
  Had vy = ‵ (fobs γ ((Vr E).coded.code h)) ∷ ‵ (fbor κ (Borrowed (mem (Vr E)) rb ro γ)) ∷ ‵ (flft κ q) ∷ ‵ (el_own E y (vy ∷ [])) ∷ []

  walk : us0 ≡ vptr rb ro ∷ [] → Asks E h p → (vy : Val) → Good E vy → ent 𝓤 (⋆ 𝓛 (Had vy)) (WpFn 𝓤 H C Λ (function E) (vptr rb ro ∷ word p.ptr ∷ vy ∷ []) Post)
  walk passed asked vy fy =
      let lens : n ≡ length xs = (el_ok E h).0 in
      let le : n ≤ c = (el_ok E h).1 in
      let inside : i < length xs = asked.inside in
      let pos : 0 < c = omega arith in
      let ys : List (el_x E) = set xs i y in
      qed 𝓛 (Had vy) ∵ enter ! C Λ (function E) (vptr rb ro ∷ word p.ptr ∷ vy ∷ []) _ $ alloc_all !
      (λ l. pass_all ! refl ((tt, tt), (word-Good [] p.ptr, (fy, tt))) $
      let En : Env 𝓤 H = env (function E).locals l in
      vec_opens E ! tt h rb ro pos (λ b o hv at_b fl fc fit.
      let there : p.ptr ≡ block_ptr b (i * s + o) = asked.there ∙ ap (ptr_add (R E) i) at_b in
      use1 𝓛 (‵ (part_at (R E) full_share (get_or xs i y) b (i * s + o)) ⊛ ‵ (Beside E 𝓛 n xs i b o)) (one_out E 𝓛 n xs i b o y inside) $ split ! $
      use1 𝓛 (some (λ (v : Val). given (Good E v) (‵ (fat full_share (elτ E) b (i * s + o) v) ⊛ ‵ (el_own E (get_or xs i y) (v ∷ [])))))
      (el_out E 𝓛 full_share (get_or xs i y) b (i * s + o)) $ pick ! (λ v. learn ! (λ tv. split ! $
      move ! (1 ∷ []) $ drop ! $
      take_at ! 2 $ rewrite ! 0 (λ (k : Ptr). ‵ (fat full_share (layout (Pl E)) (l 2) 0 (word k))) there refl $ give_at ! 2 $
      -- [the cell; the other values; the room; the token; the words; the open borrow; obs; auth; what the value owns]
      first ! $ blocks ! $
      sets ! (of_opd ! (get ! refl)) refl fy $
      assigns_last ! (of_opd ! (get ! refl)) (from ! (fld ! refl (hop ! (look_in_at ! 2 (sub ! 0 refl (whole !))) (stop !)))) (store ! 0 refl fy) $
      exec ! C Λ En (after 1 (function E).body) (at_ret En Post) $
      sets ! (of_opd ! (unit_lit !)) refl (tt, tt) $
      move ! (0 ∷ 8 ∷ []) $ use2 𝓛 (‵ (part_at (R E) full_share y b (i * s + o))) (el_in E 𝓛 full_share y b (i * s + o) vy) $
      use2 𝓛 (‵ (part_at (Array (R E) n) full_share ys b o)) (one_in E 𝓛 n xs i b o y inside (sym lens)) $
      vec_closes E ! tt (with_item h i y) b o n c ys rb ro (at_b, refl, refl, refl) fl fc fit pos $
      returns ! (look_at ! 0 refl) $ free_all ! refl $ keep ! (0 ∷ 1 ∷ 2 ∷ []) $ by ! (exits passed)))))

  entry : Asks E h p → ent 𝓤 (on_entry 𝓛 (ended E).signature (κ, tt) (q, tt) (self, (p, (y, tt))) (us0, (us1, (us2, tt))))
      (WpFn 𝓤 H C Λ (function E) (us0 ++ (us1 ++ (us2 ++ []))) Post)
  entry asked =
      qed 𝓛 ((‵ (flft κ q) ⊛ ‵ ftrue) ∷ ‵ (owns (MutRef (named 0) κ (Vr E) ∷ Pl E ∷ R E ∷ []) (self, (p, (y, tt))) (us0, (us1, (us2, tt)))) ∷ []) ∵
      split ! $ move ! (2 ∷ []) $
      fsplit ! $
      fsplit3 ! $ feq_l ! (λ e0.
      move ! (2 ∷ []) $
      fsplit ! $
      word_had ! p.ptr us1 (λ e1.
      fsplit ! $
      tells E.row E.laws ! y us2 (λ vy e2 fy.
      keep ! (2 ∷ 3 ∷ 4 ∷ 0 ∷ []) $
      by ! (subst (λ (ws : List Val × List Val × List Val). ent 𝓤 (⋆ 𝓛 (Had vy)) (WpFn 𝓤 H C Λ (function E) (ws.0 ++ (ws.1 ++ (ws.2 ++ []))) Post))
      (λ j. (sym e0 j, sym e1 j, sym e2 j)) (walk e0 asked vy fy)))))

meets : (E : El) {M : Type 1} {𝓤 : Ura M} (𝓛 : Logic 𝓤) (𝓣 : Tables 𝓤 𝓛.H)
    → Meets 𝓛 (ended E).signature (WpFn 𝓤 𝓛.H 𝓣.C 𝓣.Λ (function E)) (closing 𝓛 (ended E) (spec E 𝓛))
meets E {𝓤 = 𝓤} 𝓛 𝓣 =
    walk_Meets 𝓛 (ended E) (stayed E) (
      Goes-ref 𝓛 1 0 tt (plain (λ _. Vr E)),
      (Goes-dropped 𝓛 1 (plain (λ _. Pl E)) no (λ κs x f. refl), (Goes-dropped 𝓛 1 (plain (λ _. R E)) no (λ κs x f. refl), tt)),
    ) (spec E 𝓛) (WpFn 𝓤 𝓛.H 𝓣.C 𝓣.Λ (function E)) (WpFn-mono 𝓤 𝓛.H 𝓛.laws 𝓣 (function E))
    (λ z. needs 𝓤 (Asks E z.0.3.0.now z.0.3.1.0) _
    (entry E 𝓛 𝓣.C 𝓣.Λ z.0.0.0 z.0.1.0 z.0.3.0.ref_ptr.0 z.0.3.0.ref_ptr.1 z.0.3.0.ghost_name z.0.3.0.now z.0.3.1.0 z.0.3.1.1.0 z.0.4.0 z.0.4.1.0 z.0.4.1.1.0))

pub put_spec : {M : Type 1} → stated.statement M
unfolding tables_of
put_spec 𝓤 𝓛 𝓜 𝓡 wired X Z L LZ g d dd met md y =
    let E : El = record { row = X; laws = L; al = record { row = Z; laws = LZ; g = g; d = d; drops = dd } } in
    let 𝓣 : Tables 𝓤 𝓛.H = tables_of 𝓤 𝓛.H 𝓜 (tables 𝓤 𝓛.H 𝓜 𝓡 𝓡.env) in
    spared 𝓛 (ended E).signature (𝓡.run (𝓡.env (#self (args E)))) (run_framed 𝓤 𝓛.H 𝓜 𝓡 (𝓡.env (#self (args E)))) 2 (X.lives, (Z.lives, tt))
    (closing 𝓛 (ended E) (spec E 𝓛))
    (entered 𝓤 𝓛.H (triple_of 𝓛 (ended E).signature (closing 𝓛 (ended E) (spec E 𝓛))) 𝓣.C 𝓣.Λ (#self (args E)) (function E)
    (code.unfolded 𝓤 𝓛.H 𝓜 𝓡 wired (X, (Z, tt)) d dd) (meets E 𝓛 𝓣))
    ((y.0.0, y.0.1, tt, y.0.3, y.0.4), y.1)
