-- `slot_at` meets its contract: a walk of its MIR by hand.
use mathlib.Core.Path.{◌≡◌, refl, sym, ap, subst, ◌∙◌}
use Prim.Native.Nat.{ℕ, ◌+◌, ◌*◌, ◌<◌, ◌^◌}
use native.Mathlib.Omega.{arith}
use mathlib.Core.List.{List, [], ◌∷◌, ◌++◌}
use lib.ListN.{length}
use seplogic.Ra.Ura.{Ura}
use base.Fraction.{full_share}
use mir.Syntax.{Fn, named, w64}
use mir.MapTy.{inst_fn}
use mir.Val.{Val, vptr, vint}
use base.Logic.{SProp, ent, sep}
use base.Fml.{Lft, Share, ftrue, fhide, fat, flft}
use prog.Wp.{Env, Calls, Loops, WpFn, Tables}
use types.Logic.{Logic}
use contract.Monad.{fact}
use contract.Running.{tables, tables_of}
use sound.WpLaws.{WpFn-mono}
use types.Kit.{Item, ⋆, ‵, raw, ◌⊛◌, at_ret, ◌$◌, ◌∵◌, !, qed, by, move, keep, drop, use1, split, join, rewrite, fsplit, fjoin, feq_l, flt_l, suffices, frame, done}
use types.Part.{whole, sub, agg}
use types.Run.{stop, fld, of_opd, bin, size_lit, and_then, no_more, first, blocks, exec, returns, enter}
use types.ByLocal.{alloc_all, pass_all, free_all, look_at, take_at, give_at, get, get_in, sets, sets_last, env}
use denote.Exit.{yes, no}
use denote.RattleType.{RattleType, owns}
use denote.Memory.{hidden_shr}
use denote.Opens.{unhide}
use denote.Param.{layout}
use denote.RawPtr.{Ptr, block_ptr, block_of, count_of, InBlock, at_block}
use denote.Ref.{Bor, ShrRef}
use denote.Builtin.{RefOf, usize}
use denote.Signature.{plain}
use denote.Steps.{heard, nothing}
use denote.Struct.Struct.{Struct}
use denote.Struct.Owning.{shape}
use denote.Struct.Lending.{in_block_says, lent_out}
use denote.Triple.Carry.{spared}
use denote.Triple.Clauses.{Clauses, Ended, closing}
use denote.Triple.Entry.{on_entry}
use denote.Triple.Spec.{Meets, triple_of}
use denote.Triple.Table.{entered, run_framed}
use denote.Triple.Walked.{Stays, stay_dropped, walk_of, ends_at, Goes-dropped, walk_Meets}
use Rattle.std.specs.Ptr.{ptr_add}
use Rattle.std.specs.contracts.vec.Vec as vec-type
use Rattle.std.proofs.RcSteps.{word, word-Good}
use Rattle.std.proofs.VecSteps.El.{El, el_x, el_d, R, P, Vr, sz, args, owning}
use Rattle.std.proofs.VecSteps.Shapes.{after}
use Rattle.sa_links.specs.Slot.{IsSlot, index_of}
use Rattle.std.proofs.VecSteps.Facts.{last_fact, and_fact, Says-All}
use Rattle.std.specs.Mem.{type_size}
use Rattle.sa_links.proofs.Memory.{Pl, word_had, word_made, quotient, needs_three, fits_here}
use Rattle.sa_links.specs.contracts.block.slot_at.Key.{name as #self}
use Rattle.sa_links.proofs.block.slot_at.Statement as stated
use Rattle.sa_links.proofs.block.slot_at.Code as code

module _ (E : El) where
  abbrev function : Fn
  function = inst_fn (args E) code.function

  abbrev Words : RattleType
  Words = Struct (shape (owning E))

  abbrev fields : el_d E → Words.Denot
  fields d = (d.ptr, (d.len, (d.cap, (d.alloc, tt))))

  abbrev ended : Ended
  ended =
      record {
        signature = record {
          lifetimes = 1;
          outlives = [];
          params = RefOf (0 ∷ []) tt (plain (λ _. Vr E)) (λ _. tt) ∷ plain (λ _. Pl E) ∷ plain (λ _. usize) ∷ [];
          result = plain (λ _. Pl E);
        };
        kept = (yes, (no, (yes, tt)));
      }

  abbrev stayed : Stays ended.signature.params ended.kept
  stayed =
      (stay_dropped (RefOf (0 ∷ []) tt (plain (λ _. Vr E)) (λ _. tt)) yes, (stay_dropped (plain (λ _. Pl E)) no, (stay_dropped (plain (λ _. usize)) yes, tt)))

  abbrev Begins : el_d E → (Pl E).Denot → Type 0
  Begins d begin = begin.ptr ≡ d.ptr

  abbrev Lies : el_d E → (Pl E).Denot → Type 0
  Lies d r = IsSlot (R E) d.ptr (length d.items) r.ptr

  abbrev Is : el_d E → ℕ → (Pl E).Denot → Type 0
  Is d i r = index_of (R E) d.ptr r.ptr ≡ i

  abbrev Asks : el_d E → (Pl E).Denot → ℕ → Type 0
  Asks d begin i = Begins d begin × (i < length d.items) × (0 < type_size (R E))

  abbrev spec : {M : Type 1} {𝓤 : Ura M} (𝓛 : Logic 𝓤) → Clauses 𝓤 ended
  spec {𝓤 = 𝓤} 𝓛 κs a = record {
    ghost = Unit {0};
    requires = λ _. sep 𝓤 (fact 𝓤 (Begins a.0.now a.1.0)) (sep 𝓤 (fact 𝓤 (a.1.1.0 < length a.0.now.items)) (fact 𝓤 (0 < type_size (R E))));
    ensures = λ _ r w. sep 𝓤 (fact 𝓤 (Lies a.0.now r)) (fact 𝓤 (Is a.0.now a.1.1.0 r));
  }

module _ (E : El) {M : Type 1} {𝓤 : Ura M} (𝓛 : Logic 𝓤) (C : Calls 𝓤 𝓛.H) (Λ : Loops 𝓤 𝓛.H) (κ : Lft) (q : Share) (rb ro : ℕ) (d : el_d E) (p : (Pl E).Denot)
    (i : ℕ) (us0 us1 us2 : List Val) where
  open 𝓛 use {H, A}

  abbrev self : Bor (el_d E)
  self = record { ref_ptr = (rb, ro); now = d }

  abbrev bound : (walk_of 𝓛 (ended E) (stayed E) (spec E 𝓛)).Ghost
  bound = (((κ, tt), (q, tt), tt, (self, (p, (i, tt))), (us0, (us1, (us2, tt)))), tt)

  abbrev Post : Val → SProp 𝓤
  Post = (walk_of 𝓛 (ended E) (stayed E) (spec E 𝓛)).post bound

  exits : (r : (Pl E).Denot) (v : Val) → Lies E d r → Is E d i r → ent 𝓤 (⋆ 𝓛 (‵ (flft κ q) ∷ ‵ ((Pl E).own_val r (v ∷ [])) ∷ [])) (Post v)
  exits r v g0 g1 =
      qed 𝓛 (‵ (flft κ q) ∷ ‵ ((Pl E).own_val r (v ∷ [])) ∷ []) ∵
      suffices ! _ (ends_at 𝓛 (ended E) (stayed E) (spec E 𝓛) bound v r (tt, (tt, (tt, tt))) (tt, (tt, (tt, tt)))) $ Says-All !
      (and_fact 𝓤 g0 (last_fact 𝓤 g1)) $
      nothing ! $ move ! (1 ∷ 0 ∷ []) $ join ! $ frame ! $ nothing ! $ nothing ! $ fjoin ! $ nothing ! $ fjoin ! $ nothing ! $ fjoin ! $ done !

  abbrev Had : List (Item 𝓤)
  Had = ‵ (hidden_shr (Vr E) κ d rb ro) ∷ ‵ (flft κ q) ∷ []

  walk : Asks E d p i → i < 2 ^ 64 → ent 𝓤 (⋆ 𝓛 Had) (WpFn 𝓤 H C Λ (function E) (vptr rb ro ∷ word p.ptr ∷ vint w64 i ∷ []) Post)
  walk asked fi =
      let s : ℕ = sz E in
      let b : ℕ = block_of d.ptr in let o : ℕ = count_of d.ptr in
      let out : (Pl E).Denot = record { ptr = block_ptr b (i * s + o) } in
      let inside : i < length d.items = asked.1 in
      let within : i < d.cap = omega (arith, d.ok.0, d.ok.1) in
      qed 𝓛 Had ∵ enter ! C Λ (function E) (vptr rb ro ∷ word p.ptr ∷ vint w64 i ∷ []) _ $ alloc_all !
      (λ l. pass_all ! refl ((tt, tt), (word-Good [] p.ptr, ((tt, record { fits = fi }), tt))) $
      let En : Env 𝓤 H = env (function E).locals l in
      use1 𝓛 (‵ (hidden_shr (Words E) κ (fields E d) rb ro) ⊛ ‵ (fhide (vec-type.the_lent (R E) (P E) E.al.g d d.ptr κ)))
      (lent_out 𝓛 (vec-type.struct (R E) (P E) E.al.g) (vec-type.the_codes (el_x E) (P E).Denot (R E).coded (P E).coded)
      (vec-type.the_heap (R E) (P E) E.al.g) (vec-type.the_lent (R E) (P E) E.al.g) κ d rb ro) $ split ! $ drop ! $
      unhide ! $ fsplit ! $ flt_l !
      (λ fit. fsplit ! $ use1 𝓛 (raw (fact 𝓤 (InBlock d.ptr))) (in_block_says 𝓛 d.ptr) $ heard ! (InBlock d.ptr) (λ inb. fsplit ! $ drop ! $ drop ! $
      let far : (s < 2 ^ 64) × (i * s < 2 ^ 64) = fits_here d.cap s i within fit in
      let begin : p.ptr ≡ block_ptr b o = asked.0 ∙ at_block d.ptr inb in
      let index : index_of (R E) d.ptr out.ptr ≡ i = quotient i s o asked.2 in
      let there : out.ptr ≡ ptr_add (R E) (index_of (R E) d.ptr out.ptr) d.ptr =
      subst (λ (k : ℕ). out.ptr ≡ ptr_add (R E) k d.ptr) (sym index) (sym (ap (ptr_add (R E) i) (at_block d.ptr inb))) in
      take_at ! 2 $ rewrite ! 0 (λ (k : Ptr). ‵ (fat full_share (layout (Pl E)) (l 2) 0 (word k))) begin refl $ give_at ! 2 $
      -- [the token]
      first ! $ blocks ! $
      sets ! (of_opd ! (get_in ! (fld ! refl (stop !)) (sub ! 0 refl (whole !)))) refl (tt, tt) $
      sets ! (of_opd ! (get ! refl)) refl (tt, record { fits = fi }) $
      sets ! (bin ! (get ! refl) (size_lit ! (record { fits = far.0 })) (record { fits = far.1 })) refl (tt, record { fits = far.1 }) $
      sets_last ! (bin ! (get ! refl) (get ! refl) tt) refl (tt, tt) $
      exec ! C Λ En (after 1 (function E).body) (at_ret En Post) $ sets ! (of_opd ! (get ! refl)) refl (tt, tt) $
      sets ! (agg ! (and_then ! (get ! refl) (no_more !))) refl (word-Good [] out.ptr) $
      returns ! (look_at ! 0 refl) $ free_all ! refl $ keep ! (0 ∷ []) $ word_made ! out.ptr $ move ! (1 ∷ 0 ∷ []) $
      by ! (exits out (word out.ptr) (record { inside = subst (λ (k : ℕ). k < length d.items) (sym index) inside; there = there }) index))))

  entry : Asks E d p i → ent 𝓤 (on_entry 𝓛 (ended E).signature (κ, tt) (q, tt) (self, (p, (i, tt))) (us0, (us1, (us2, tt))))
      (WpFn 𝓤 H C Λ (function E) (us0 ++ (us1 ++ (us2 ++ []))) Post)
  entry asked =
      qed 𝓛 ((‵ (flft κ q) ⊛ ‵ ftrue) ∷ ‵ (owns (ShrRef (named 0) κ (Vr E) ∷ Pl E ∷ usize ∷ []) (self, (p, (i, tt))) (us0, (us1, (us2, tt)))) ∷ []) ∵
      split ! $ move ! (2 ∷ []) $
      fsplit ! $
      fsplit ! $ feq_l ! (λ e0.
      move ! (1 ∷ []) $
      fsplit ! $
      word_had ! p.ptr us1 (λ e1.
      fsplit ! $
      fsplit ! $ feq_l ! (λ e2. flt_l ! (λ fi.
      keep ! (1 ∷ 2 ∷ []) $
      by ! (subst (λ (ws : List Val × List Val × List Val). ent 𝓤 (⋆ 𝓛 Had) (WpFn 𝓤 H C Λ (function E) (ws.0 ++ (ws.1 ++ (ws.2 ++ []))) Post))
      (λ j. (sym e0 j, sym e1 j, sym e2 j)) (walk asked fi))))))

meets : (E : El) {M : Type 1} {𝓤 : Ura M} (𝓛 : Logic 𝓤) (𝓣 : Tables 𝓤 𝓛.H)
    → Meets 𝓛 (ended E).signature (WpFn 𝓤 𝓛.H 𝓣.C 𝓣.Λ (function E)) (closing 𝓛 (ended E) (spec E 𝓛))
meets E {𝓤 = 𝓤} 𝓛 𝓣 =
    walk_Meets 𝓛 (ended E) (stayed E) (
      Goes-dropped 𝓛 1 (RefOf (0 ∷ []) tt (plain (λ _. Vr E)) (λ _. tt)) yes (λ κs x f. refl),
      (Goes-dropped 𝓛 1 (plain (λ _. Pl E)) no (λ κs x f. refl), (Goes-dropped 𝓛 1 (plain (λ _. usize)) yes (λ κs x f. refl), tt)),
    ) (spec E 𝓛) (WpFn 𝓤 𝓛.H 𝓣.C 𝓣.Λ (function E)) (WpFn-mono 𝓤 𝓛.H 𝓛.laws 𝓣 (function E))
    (λ z. needs_three 𝓤 (Begins E z.0.3.0.now z.0.3.1.0) (z.0.3.1.1.0 < length z.0.3.0.now.items) (0 < type_size (R E)) _
    (entry E 𝓛 𝓣.C 𝓣.Λ z.0.0.0 z.0.1.0 z.0.3.0.ref_ptr.0 z.0.3.0.ref_ptr.1 z.0.3.0.now z.0.3.1.0 z.0.3.1.1.0 z.0.4.0 z.0.4.1.0 z.0.4.1.1.0))

pub slot_at_spec : {M : Type 1} → stated.statement M
unfolding tables_of
slot_at_spec 𝓤 𝓛 𝓜 𝓡 wired X Z L LZ g d dd met md y =
    let E : El = record { row = X; laws = L; al = record { row = Z; laws = LZ; g = g; d = d; drops = dd } } in
    let 𝓣 : Tables 𝓤 𝓛.H = tables_of 𝓤 𝓛.H 𝓜 (tables 𝓤 𝓛.H 𝓜 𝓡 𝓡.env) in
    spared 𝓛 (ended E).signature (𝓡.run (𝓡.env (#self (args E)))) (run_framed 𝓤 𝓛.H 𝓜 𝓡 (𝓡.env (#self (args E)))) 2 (X.lives, (Z.lives, tt))
    (closing 𝓛 (ended E) (spec E 𝓛))
    (entered 𝓤 𝓛.H (triple_of 𝓛 (ended E).signature (closing 𝓛 (ended E) (spec E 𝓛))) 𝓣.C 𝓣.Λ (#self (args E)) (function E)
    (code.unfolded 𝓤 𝓛.H 𝓜 𝓡 wired (X, (Z, tt)) d dd) (meets E 𝓛 𝓣))
    ((y.0.0, y.0.1, tt, y.0.3, y.0.4), y.1)
