-- An instruction leaves the ready list in order: threads keep their programs and ranks, and a fork gives the new thread the
-- rank of its program.
use Rattle.std.proofs.Common.{◌≡◌, ℕ, ◌<◌, ◌≤◌, Bool, true, false, if◌then◌else◌, List, [], length, length-set, map, Option, Some, None, slice_set, refl, sym, ap, ◌∙◌, subst, inl, inr, arith}
use Rattle.std.proofs.lemmas.Bool.{cases_eq, cases_lt, lt-ltb, le-ltb, eq-eqb}
use Rattle.std.proofs.lemmas.List.{get_or-set_same, get_or-set_other, set_past}
use Rattle.std.proofs.lemmas.Option.{same_Some, none-some}
use Rattle.sa_base.specs.declared.number.SpaceNo.{SpaceNo}
use Rattle.sa_base.specs.declared.number.ThreadNo.{ThreadNo}
use Rattle.sa_instr.specs.declared.instr.Instr.{Instr}
use Rattle.sa_instr.specs.declared.instr.Instr.TheVariants.{Fork, Join, Lock, Unlock, Wait, Signal, Touch}
use Rattle.sa_instr.specs.declared.instr.Reg.{Reg}
use Rattle.sa_links.specs.Lists.{list_at, count_in, count_in_all}
use Rattle.sa_lists.specs.ReadyView.{ReadyView, rank_of, next_made, with_rank}
use Rattle.sa_sync.specs.Sync.{Sync}
use Rattle.sa_sync.specs.declared.answer.SyncAnswer.{SyncAnswer}
use Rattle.sa_sync.specs.declared.answer.SyncAnswer.TheVariants as answer
use Rattle.sa_code.specs.Micro.{is_resident}
use Rattle.sa_fast.specs.Instruction.{told_by, forked, touched, outcome_of, value_in, with_sync, run, instr_of}
use Rattle.sa_fast.specs.Threads.{at_start, block_at, unmade, with_block}
use Rattle.sa_fast.specs.declared.shared.Shared.{Shared}
use Rattle.sa_fast.specs.declared.threads.Block.{Block}
use Rattle.sa_fast.specs.declared.threads.KeptPlace.TheVariants as kept
use Rattle.sa_abstract.specs.Calls.{Contexts}
use Rattle.sa_abstract.specs.Setting.{Setting}
use Rattle.sa_package_model.specs.Rules.{with_shared}
use Rattle.sa_package_model.specs.Stands.{IsStanding}
use Rattle.sa_package_model.specs.declared.context.Context.{Context}
use Rattle.sa_package_model.specs.declared.package.Package.{Package}
use Rattle.sa_laws.specs.Readings.{Readings, Listed}
use Rattle.sa_fast_laws.specs.FastFits.{Holds, number_in}
use Rattle.sa_fast_laws.proofs.lists.Pops.{listed_made}
use Rattle.sa_prio_laws.proofs.relation.Orders.{by_rank-alike, count-by_rank}
use Rattle.sa_prio_laws.proofs.relation.Ready.{listed-made}
use Rattle.sa_prio_laws.specs.Ready.{FitsRanked}

-- a block of the same program changes no program
pub with-program : (blocks : List Block) (t : ℕ) (b : Block) (n : ℕ) → b.program ≡ (block_at blocks t).program
    → (block_at (with_block blocks t b) n).program ≡ (block_at blocks n).program
with-program blocks t b n same = elim (cases_eq n t) [
  | inl here ↦ elim (cases_lt t (length blocks)) [
    | inl less ↦
        ap (λ m. (block_at (with_block blocks t b) m).program) here
        ∙ ap (λ (x : Block). x.program) (get_or-set_same blocks t b unmade less)
        ∙ same ∙ sym (ap (λ m. (block_at blocks m).program) here)
    | inr past ↦ ap (λ bs. (block_at bs n).program) (set_past blocks t b (omega arith))
  ]
  | inr ne ↦ ap (λ (x : Block). x.program) (get_or-set_other blocks t n b unmade ne)
]

next-is : (r : ReadyView) (n : ℕ) → next_made r ≡ Some n → (r.made ≡ n) × (r.made < r.threads)
next-is r n e = elim (cases_lt r.made r.threads) [
  | inl less ↦ (same_Some r.made n (sym (ap (λ b. if b then Some r.made else None) (lt-ltb r.made r.threads less)) ∙ e), less)
  | inr more ↦ absurd (none-some n (sym (ap (λ b. if b then Some r.made else None) (le-ltb r.made r.threads more)) ∙ e))
]

-- the ranks of the threads are those of their programs
pub record HaveRanks (x : Shared) : Type 0 where
  pub many : length x.state.lists.ranks ≡ x.state.lists.threads
  pub ranks : (n : ThreadNo) → n.0 < x.state.lists.made → rank_of x.state.lists.ranks n.0 ≡ (block_at x.threads n.0).program

-- so they come after all that were made, and who was made keeps its rank
pub record KeepRanks (x y : Shared) : Type 0 where
  pub have : HaveRanks y
  pub same : (n : ℕ) → n < x.state.lists.made → rank_of y.state.lists.ranks n ≡ rank_of x.state.lists.ranks n

module _ (fetch pages : ℕ) (x : Shared) (w : Option ThreadNo) (t : ThreadNo) (b : Block) (own : b.program ≡ (block_at x.threads t.0).program) (h : HaveRanks x)
    (blocks : x.state.lists.threads ≤ length x.threads) (listed : (n : ℕ) → 1 ≤ count_in_all n x.state.lists.lists → n < x.state.lists.made) where
  -- the lists stay, and only its own block changes
  placed : (y : Shared) (c : Block) → c.program ≡ b.program → y.state.lists ≡ x.state.lists → y.threads ≡ with_block x.threads t.0 c → KeepRanks x y
  placed y c program lists threads = record {
    have = record {
      many = ap (λ (l : ReadyView). length l.ranks) lists ∙ h.many ∙ sym (ap (λ (l : ReadyView). l.threads) lists);
      ranks = λ n made.
          ap (λ (l : ReadyView). rank_of l.ranks n.0) lists ∙ h.ranks n (subst (λ (l : ReadyView). n.0 < l.made) lists made)
          ∙ sym (ap (λ bs. (block_at bs n.0).program) threads ∙ with-program x.threads t.0 c n.0 (program ∙ own));
    };
    same = λ n made. ap (λ (l : ReadyView). rank_of l.ranks n) lists;
  }

  told : (sync : Sync) (c : Block) → c.program ≡ b.program → (a : SyncAnswer) → KeepRanks x (told_by (with_sync x sync) w t c a).shared
  told sync c program answer.Goes = placed _ _ program refl refl
  told sync c program _ = placed _ _ program refl refl

  touches : (page : ℕ) (there : Bool) → KeepRanks x (touched x w t b fetch page there).shared
  touches page true = placed _ _ refl refl refl
  touches page false = placed _ _ refl refl refl

  forks : (reg : Reg) (program : ℕ) (next : Option ℕ) → next_made x.state.lists ≡ next → KeepRanks x (forked x w t b reg program next).shared
  forks reg program None is = placed _ _ refl refl refl
  forks reg program (Some n) is =
      let at = next-is x.state.lists n is in
      let none : count_in_all n x.state.lists.lists ≡ 0 = (elim (cases_lt 0 (count_in_all n x.state.lists.lists)) [
        | inl some ↦ absurd (let less = listed n (omega arith) in let same = at.0 in omega arith)
        | inr few ↦ omega arith
      ]) in
      let given : with_rank x.state.lists n program ≡ slice_set x.state.lists.ranks n program =
      ap (λ z. if z then slice_set x.state.lists.ranks n program else x.state.lists.ranks) (eq-eqb (count_in_all n x.state.lists.lists) 0 none) in
      let parent = with_block x.threads t.0 (value_in b reg n) in
      record {
        have = record {
          many = ap length given ∙ length-set x.state.lists.ranks n program ∙ h.many;
          ranks = λ m made. elim (cases_eq m.0 n) [
            | inl here ↦
                ap (λ rs. rank_of rs m.0) given ∙ ap (rank_of (slice_set x.state.lists.ranks n program)) here
                ∙ get_or-set_same x.state.lists.ranks n program 0 (let all = h.many in let next = at.0 in let less = at.1 in omega arith)
                ∙ sym (ap (λ k. (block_at (with_block parent n (at_start program kept.Waiting)) k).program) here
                ∙ ap (λ (z : Block). z.program) (get_or-set_same parent n (at_start program kept.Waiting) unmade
                (let all = length-set x.threads t.0 (value_in b reg n) in let enough = blocks in let next = at.0 in let less = at.1 in omega arith)))
            | inr ne ↦
                ap (λ rs. rank_of rs m.0) given ∙ get_or-set_other x.state.lists.ranks n m.0 program 0 ne
                ∙ h.ranks m (let next = at.0 in omega arith)
                ∙ sym (ap (λ (z : Block). z.program) (get_or-set_other parent n m.0 (at_start program kept.Waiting) unmade ne)
                ∙ with-program x.threads t.0 (value_in b reg n) m.0 own)
          ];
        };
        same = λ m made. ap (λ rs. rank_of rs m) given ∙ get_or-set_other x.state.lists.ranks n m program 0 (λ here. (let next = at.0 in omega arith));
      }

  pub keeps-ranks : (k : Instr) → KeepRanks x (outcome_of fetch pages x w t b k).shared
  keeps-ranks (Fork reg program) = forks reg program (next_made x.state.lists) refl
  keeps-ranks (Join reg) = told _ _ refl _
  keeps-ranks (Lock m) = told _ _ refl _
  keeps-ranks (Unlock m) = told _ _ refl _
  keeps-ranks (Wait k) = told _ _ refl _
  keeps-ranks (Signal k) = told _ _ refl _
  keeps-ranks (Touch page) = touches page (is_resident pages page)
  keeps-ranks _ = placed _ _ refl refl refl

-- THE READY LIST after an instruction that leaves the lists as they are
pub ins-ranked : (set : Setting) (e : ℕ) (u : Package) (bs : Contexts Context) → IsStanding set e u bs → (s : SpaceNo) (r : Readings) → Holds s r u bs
    → (pages : ℕ) (t : ThreadNo) (listed : List Listed) → FitsRanked u listed
    → (run u.def u.fetch pages u.shared None t).shared.state.lists.lists ≡ u.shared.state.lists.lists
    → FitsRanked (with_shared u (run u.def u.fetch pages u.shared None t).shared) listed
ins-ranked set e u bs h s r k pages t listed f lists =
    let b = block_at u.shared.threads t.0 in
    let z = keeps-ranks u.fetch pages u.shared None t b refl (record { many = f.many; ranks = f.ranks })
    (let all = h.parts.blocks in let many = h.parts.threads in omega arith) (λ n has. listed_made set e u bs h s r k n has) (instr_of u.def b) in
    let now = (run u.def u.fetch pages u.shared None t).shared.state.lists.ranks in
    record {
      one = ap length lists ∙ f.one;
      many = z.have.many;
      there = f.there;
      order = ap (λ ls. list_at ls 0) lists ∙ f.order
          ∙ sym (by_rank-alike u.shared.state.lists.ranks now [] (map number_in listed) (λ y none. absurd (let no : count_in y [] ≡ 0 = refl in omega arith))
          (λ y has. z.same y (listed-made set e u bs h s r k listed f y (
          let all = count-by_rank u.shared.state.lists.ranks [] (map number_in listed) y in let same = ap (count_in y) f.order in omega arith))));
      ranks = z.have.ranks;
    }
