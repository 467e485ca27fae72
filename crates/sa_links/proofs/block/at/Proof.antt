-- `at` meets its contract: a walk of its MIR by hand.
use mathlib.Core.Path.{◌≡◌, refl, sym, ap, subst, ◌∙◌}
use Prim.Native.Nat.{ℕ, ◌+◌, ◌*◌}
use mathlib.Core.List.{List, [], ◌∷◌, ◌++◌}
use lib.ListN.{length, get_or}
use seplogic.Ra.Ura.{Ura}
use base.Fraction.{full_share}
use mir.Syntax.{Fn, named}
use mir.MapTy.{inst_fn}
use mir.Val.{Val, vptr}
use base.Logic.{SProp, ent}
use base.Fml.{Lft, Share, ftrue, fhide, fat, flft}
use prog.Wp.{Env, Calls, Loops, WpFn, Tables}
use types.Logic.{Logic}
use contract.Monad.{fact}
use contract.Running.{tables, tables_of}
use sound.WpLaws.{WpFn-mono}
use types.Kit.{Item, ⋆, ‵, raw, ◌⊛◌, at_ret, ◌$◌, ◌∵◌, !, qed, by, move, keep, drop, use1, split, join, rewrite, fsplit, fjoin, feq_i, feq_l, flt_l, suffices, frame, done}
use types.Part.{whole, sub}
use types.Run.{stop, hop, fld, from, of_opd, addr, first, blocks, exec, returns, enter}
use types.ByLocal.{alloc_all, pass_all, free_all, look_at, look_in_at, take_at, give_at, get, sets, sets_last, env}
use denote.Exit.{yes, no}
use denote.RattleType.{RattleType, owns}
use denote.Memory.{hidden_shr, shared_of}
use denote.Opens.{unhide, hide}
use denote.Param.{layout}
use denote.RawPtr.{Ptr, block_ptr, block_of, count_of, InBlock, at_block}
use denote.Ref.{Bor, ShrRef}
use denote.Builtin.{RefOf}
use denote.Signature.{plain}
use denote.Steps.{heard, nothing}
use denote.Struct.Struct.{Struct}
use denote.Struct.Owning.{shape}
use denote.Struct.Lending.{in_block_says, lent_out}
use denote.Triple.Carry.{spared}
use denote.Triple.Clauses.{Clauses, Ended, closing}
use denote.Triple.Entry.{on_entry}
use denote.Triple.Spec.{Meets, triple_of}
use denote.Triple.Table.{entered, run_framed}
use denote.Triple.Walked.{says, needs, Stays, stay_dropped, walk_of, ends_at, Goes-dropped, walk_Meets}
use Rattle.std.specs.Ptr.{ptr_add}
use Rattle.std.specs.contracts.vec.Vec as vec-type
use Rattle.std.proofs.RcSteps.{word, word-Good}
use Rattle.std.proofs.VecSteps.El.{El, el_x, el_d, R, P, Vr, sz, args, owning}
use Rattle.std.proofs.VecSteps.Shapes.{after}
use Rattle.std.proofs.lemmas.List.{get_or_default}
use Rattle.sa_links.specs.Slot.{IsSlot, index_of}
use Rattle.sa_links.proofs.Memory.{Pl, word_had, one_seen, some_of}
use Rattle.sa_links.specs.contracts.block.at.Key.{name as #self}
use Rattle.sa_links.proofs.block.at.Statement as stated
use Rattle.sa_links.proofs.block.at.Code as code

module _ (E : El) where
  abbrev function : Fn
  function = inst_fn (args E) code.function

  abbrev Words : RattleType
  Words = Struct (shape (owning E))

  abbrev fields : el_d E → Words.Denot
  fields d = (d.ptr, (d.len, (d.cap, (d.alloc, tt))))

  abbrev ended : Ended
  ended =
      record {
        signature = record {
          lifetimes = 1;
          outlives = [];
          params = RefOf (0 ∷ []) tt (plain (λ _. Vr E)) (λ _. tt) ∷ plain (λ _. Pl E) ∷ [];
          result = RefOf (0 ∷ []) tt (plain (λ _. R E)) (λ _. tt);
        };
        kept = (yes, (no, tt));
      }

  abbrev stayed : Stays ended.signature.params ended.kept
  stayed = (stay_dropped (RefOf (0 ∷ []) tt (plain (λ _. Vr E)) (λ _. tt)) yes, (stay_dropped (plain (λ _. Pl E)) no, tt))

  abbrev Asks : el_d E → (Pl E).Denot → Type 0
  Asks d slot = IsSlot (R E) d.ptr (length d.items) slot.ptr

  abbrev at : el_d E → (Pl E).Denot → ℕ
  at d slot = index_of (R E) d.ptr slot.ptr

  abbrev Gives : el_d E → (Pl E).Denot → Bor (el_x E) → Type 0
  Gives d slot r = r.now ≡ get_or d.items (at d slot) r.now

  abbrev spec : {M : Type 1} {𝓤 : Ura M} (𝓛 : Logic 𝓤) → Clauses 𝓤 ended
  spec {𝓤 = 𝓤} 𝓛 κs a = record { ghost = Unit {0}; requires = λ _. fact 𝓤 (Asks a.0.now a.1.0); ensures = λ _ r w. fact 𝓤 (Gives a.0.now a.1.0 r) }

module _ (E : El) {M : Type 1} {𝓤 : Ura M} (𝓛 : Logic 𝓤) (C : Calls 𝓤 𝓛.H) (Λ : Loops 𝓤 𝓛.H) (κ : Lft) (q : Share) (rb ro : ℕ) (d : el_d E) (p : (Pl E).Denot)
    (us0 us1 : List Val) where
  open 𝓛 use {H, A}

  abbrev self : Bor (el_d E)
  self = record { ref_ptr = (rb, ro); now = d }

  abbrev bound : (walk_of 𝓛 (ended E) (stayed E) (spec E 𝓛)).Ghost
  bound = (((κ, tt), (q, tt), tt, (self, (p, tt)), (us0, (us1, tt))), tt)

  abbrev Post : Val → SProp 𝓤
  Post = (walk_of 𝓛 (ended E) (stayed E) (spec E 𝓛)).post bound

  exits : (r : Bor (el_x E)) (v : Val) → Gives E d p r → ent 𝓤 (⋆ 𝓛 (‵ (flft κ q) ∷ ‵ ((ShrRef (named 0) κ (R E)).own_val r (v ∷ [])) ∷ [])) (Post v)
  exits r v g0 =
      qed 𝓛 (‵ (flft κ q) ∷ ‵ ((ShrRef (named 0) κ (R E)).own_val r (v ∷ [])) ∷ []) ∵
      suffices ! _ (ends_at 𝓛 (ended E) (stayed E) (spec E 𝓛) bound v r (tt, (tt, tt)) (tt, (tt, tt))) $ says ! g0 $
      nothing ! $ move ! (1 ∷ 0 ∷ []) $ join ! $ frame ! $ nothing ! $ nothing ! $ fjoin ! $ nothing ! $ fjoin ! $ done !

  abbrev Had : List (Item 𝓤)
  Had = ‵ (hidden_shr (Vr E) κ d rb ro) ∷ ‵ (flft κ q) ∷ []

  walk : Asks E d p → ent 𝓤 (⋆ 𝓛 Had) (WpFn 𝓤 H C Λ (function E) (vptr rb ro ∷ word p.ptr ∷ []) Post)
  walk asked =
      let s : ℕ = sz E in let i : ℕ = at E d p in
      let b : ℕ = block_of d.ptr in let o : ℕ = count_of d.ptr in
      let e0 : el_x E = some_of d.items i asked.inside in
      let x : el_x E = get_or d.items i e0 in
      qed 𝓛 Had ∵ enter ! C Λ (function E) (vptr rb ro ∷ word p.ptr ∷ []) _ $ alloc_all ! (λ l. pass_all ! refl ((tt, tt), (word-Good [] p.ptr, tt)) $
      let En : Env 𝓤 H = env (function E).locals l in
      use1 𝓛 (‵ (hidden_shr (Words E) κ (fields E d) rb ro) ⊛ ‵ (fhide (vec-type.the_lent (R E) (P E) E.al.g d d.ptr κ)))
      (lent_out 𝓛 (vec-type.struct (R E) (P E) E.al.g) (vec-type.the_codes (el_x E) (P E).Denot (R E).coded (P E).coded)
      (vec-type.the_heap (R E) (P E) E.al.g) (vec-type.the_lent (R E) (P E) E.al.g) κ d rb ro) $ split ! $ drop ! $
      unhide ! $ fsplit ! $ flt_l !
      (λ fit. fsplit ! $ use1 𝓛 (raw (fact 𝓤 (InBlock d.ptr))) (in_block_says 𝓛 d.ptr) $ heard ! (InBlock d.ptr) (λ inb. fsplit ! $ drop ! $
      let there : p.ptr ≡ block_ptr b (i * s + o) = asked.there ∙ ap (ptr_add (R E) i) (at_block d.ptr inb) in
      use1 𝓛 (‵ (shared_of (R E) x b (i * s + o) κ)) (one_seen 𝓛 (R E) b κ d.items i e0 o asked.inside) $ hide ! $
      take_at ! 2 $ rewrite ! 0 (λ (k : Ptr). ‵ (fat full_share (layout (Pl E)) (l 2) 0 (word k))) there refl $ give_at ! 2 $
      -- [a `&` to the value; the token]
      first ! $ blocks ! $
      sets_last ! (addr ! (from ! (fld ! refl (hop ! (look_in_at ! 2 (sub ! 0 refl (whole !))) (stop !))))) refl (tt, tt) $
      exec ! C Λ En (after 1 (function E).body) (at_ret En Post) $ sets ! (of_opd ! (get ! refl)) refl (tt, tt) $
      feq_i ! (List Val) (vptr b (i * s + o) ∷ []) (vptr b (i * s + o) ∷ []) refl $ fjoin ! $
      returns ! (look_at ! 0 refl) $ free_all ! refl $ keep ! (1 ∷ 0 ∷ []) $
      by ! (exits (record { ref_ptr = (b, i * s + o); now = x }) (vptr b (i * s + o)) (get_or_default d.items i e0 x asked.inside)))))

  entry : Asks E d p → ent 𝓤 (on_entry 𝓛 (ended E).signature (κ, tt) (q, tt) (self, (p, tt)) (us0, (us1, tt)))
      (WpFn 𝓤 H C Λ (function E) (us0 ++ (us1 ++ [])) Post)
  entry asked =
      qed 𝓛 ((‵ (flft κ q) ⊛ ‵ ftrue) ∷ ‵ (owns (ShrRef (named 0) κ (Vr E) ∷ Pl E ∷ []) (self, (p, tt)) (us0, (us1, tt))) ∷ []) ∵
      split ! $ move ! (2 ∷ []) $
      fsplit ! $
      fsplit ! $ feq_l ! (λ e0.
      move ! (1 ∷ []) $
      fsplit ! $
      word_had ! p.ptr us1 (λ e1.
      keep ! (1 ∷ 2 ∷ []) $
      by ! (subst (λ (ws : List Val × List Val). ent 𝓤 (⋆ 𝓛 Had) (WpFn 𝓤 H C Λ (function E) (ws.0 ++ (ws.1 ++ [])) Post)) (λ j. (sym e0 j, sym e1 j))
      (walk asked))))

meets : (E : El) {M : Type 1} {𝓤 : Ura M} (𝓛 : Logic 𝓤) (𝓣 : Tables 𝓤 𝓛.H)
    → Meets 𝓛 (ended E).signature (WpFn 𝓤 𝓛.H 𝓣.C 𝓣.Λ (function E)) (closing 𝓛 (ended E) (spec E 𝓛))
meets E {𝓤 = 𝓤} 𝓛 𝓣 =
    walk_Meets 𝓛 (ended E) (stayed E)
    (Goes-dropped 𝓛 1 (RefOf (0 ∷ []) tt (plain (λ _. Vr E)) (λ _. tt)) yes (λ κs x f. refl), (Goes-dropped 𝓛 1 (plain (λ _. Pl E)) no (λ κs x f. refl), tt))
    (spec E 𝓛) (WpFn 𝓤 𝓛.H 𝓣.C 𝓣.Λ (function E)) (WpFn-mono 𝓤 𝓛.H 𝓛.laws 𝓣 (function E))
    (λ z. needs 𝓤 (Asks E z.0.3.0.now z.0.3.1.0) _
    (entry E 𝓛 𝓣.C 𝓣.Λ z.0.0.0 z.0.1.0 z.0.3.0.ref_ptr.0 z.0.3.0.ref_ptr.1 z.0.3.0.now z.0.3.1.0 z.0.4.0 z.0.4.1.0))

pub at_spec : {M : Type 1} → stated.statement M
unfolding tables_of
at_spec 𝓤 𝓛 𝓜 𝓡 wired X Z L LZ g d dd met md y =
    let E : El = record { row = X; laws = L; al = record { row = Z; laws = LZ; g = g; d = d; drops = dd } } in
    let 𝓣 : Tables 𝓤 𝓛.H = tables_of 𝓤 𝓛.H 𝓜 (tables 𝓤 𝓛.H 𝓜 𝓡 𝓡.env) in
    spared 𝓛 (ended E).signature (𝓡.run (𝓡.env (#self (args E)))) (run_framed 𝓤 𝓛.H 𝓜 𝓡 (𝓡.env (#self (args E)))) 2 (X.lives, (Z.lives, tt))
    (closing 𝓛 (ended E) (spec E 𝓛))
    (entered 𝓤 𝓛.H (triple_of 𝓛 (ended E).signature (closing 𝓛 (ended E) (spec E 𝓛))) 𝓣.C 𝓣.Λ (#self (args E)) (function E)
    (code.unfolded 𝓤 𝓛.H 𝓜 𝓡 wired (X, (Z, tt)) d dd) (meets E 𝓛 𝓣))
    ((y.0.0, y.0.1, tt, y.0.3, y.0.4), y.1)
