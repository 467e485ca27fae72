-- A line has one spelling in bytes, which is read back.
use Rattle.std.proofs.Common.{◌≡◌, ◌≢◌, ℕ, ◌^◌, ◌<◌, ◌≤◌, ◌&&◌, Bool, true, cond, List, [], ◌∷◌, ◌++◌, map, Option, Some, None, Ok, Err, refl, sym, ap, ◌∙◌, subst, inl, inr, arith, append_assoc, nat_le}
use Rattle.std.specs.Prelude.{All, codes, decimal}
use Rattle.std.specs.List.{flat_map, list_all, join_with_byte}
use Rattle.std.proofs.lemmas.Bool.{le-leb, leb-true, and_parts, and_from}
use Rattle.std.proofs.lemmas.Grind.{flat_map-append}
use Rattle.std.proofs.lemmas.List.Elements.{All-nil, All-cons, All-append, All-weaker, All-head, All-tail}
use Rattle.std.proofs.lemmas.List.Folds.{list_all-append}
use Rattle.std.proofs.lemmas.List.Sums.{list_all-from_AllPass, AllPass-from_list_all}
use Rattle.sa_trace.specs.declared.field.Field.{Field}
use Rattle.sa_trace.specs.declared.kind.Kind.{Kind}
use Rattle.sa_trace.specs.declared.kind.Kind.TheVariants.{Ins}
use Rattle.sa_base.specs.declared.record.End.{End}
use Rattle.sa_base.specs.declared.record.End.TheVariants.{AllDone, Stuck, Budget}
use Rattle.sa_base.specs.declared.record.Item.{Item}
use Rattle.sa_base.specs.declared.refusal.Cause.{Cause}
use Rattle.sa_base.specs.declared.refusal.Cause.TheVariants.{NotAscii, Missing}
use Rattle.sa_trace.specs.Field.{range_of, AllFit}
use Rattle.sa_trace.specs.Kind.{form_of}
use Rattle.sa_trace.specs.Parts.{parts_of}
use Rattle.sa_text.specs.LineText.{LineText, ended_line, LacksLineFeed}
use Rattle.sa_text.specs.Pieces.{pieces_of, LacksSpace}
use Rattle.sa_text.proofs.PieceLemmas.{pieces_of-are_pieces, pieces_only}
use Rattle.sa_text.proofs.Spelling.{decimal-is_spelling, decimal-lacks}
use Rattle.sa_text.proofs.Lacking.{lacks_by_test}
use Rattle.sa_trace.specs.TraceText.{field, item_text, line_of, end_word, counts_text, counts_of, last_line_of}
use Rattle.sa_text.specs.Pieces.{is_printed}
use Rattle.sa_lemmas.proofs.Booleans.{if_either}
use Rattle.sa_lemmas.proofs.Texts.{join-spaced}
use Rattle.sa_trace.specs.Line.{pieces_in}
use Rattle.sa_trace.specs.Text.{FitsItem}
use Rattle.sa_trace.proofs.Readings.{same_Ok, piece, greatest-small}
use Rattle.sa_trace.proofs.Records.{word_pieces, record_pieces}
use Rattle.sa_trace.proofs.Lines.{item_pieces, last_pieces}

-- pieces that a line may have: printed, and with no space in any
pub record AreFine (ps : List (List ℕ)) : Type 0 where
  pub printed : list_all is_printed ps ≡ true
  pub spaceless : All LacksSpace ps

pub fine-cons : (p : List ℕ) (ps : List (List ℕ)) → is_printed p ≡ true → LacksSpace p → AreFine ps → AreFine (p ∷ ps)
fine-cons p ps printed spaceless h = record {
  printed = and_from (is_printed p) (list_all is_printed ps) printed h.printed;
  spaceless = All-cons LacksSpace p ps spaceless h.spaceless;
}

pub fine-append : (ps qs : List (List ℕ)) → AreFine ps → AreFine qs → AreFine (ps ++ qs)
fine-append ps qs a b = record {
  printed = list_all-append is_printed ps qs ∙ and_from (list_all is_printed ps) (list_all is_printed qs) a.printed b.printed;
  spaceless = All-append LacksSpace ps qs a.spaceless b.spaceless;
}

pub fine-nil : AreFine []
fine-nil = record { printed = refl; spaceless = All-nil LacksSpace }

decimal-printed : (n : ℕ) → n < 2 ^ 64 → is_printed (decimal n) ≡ true
decimal-printed n small =
    list_all-from_AllPass (λ b. nat_le 32 b && nat_le b 126) (decimal n)
    (All-weaker (λ b. (48 ≤ b) × (b ≤ 57)) (λ b. (nat_le 32 b && nat_le b 126) ≡ true)
    (λ b d. and_from (nat_le 32 b) (nat_le b 126) (le-leb 32 b (omega (arith, d.0))) (le-leb b 126 (omega (arith, d.1))))
    (decimal n) (decimal-is_spelling n small).digits)

pub fine-decimal : (n : ℕ) (ps : List (List ℕ)) → n < 2 ^ 64 → AreFine ps → AreFine (decimal n ∷ ps)
fine-decimal n ps small h = fine-cons (decimal n) ps (decimal-printed n small) (decimal-lacks n 32 small (omega arith)) h

fine-fields : (fields : List Field) (vs : List (Option ℕ)) → AllFit fields vs → AreFine (map piece vs)
fine-fields [] [] h = fine-nil
fine-fields (f ∷ fields) (None ∷ vs) h = fine-cons (codes "-") (map piece vs) refl (lacks_by_test 32 (codes "-") refl) (fine-fields fields vs h.1)
fine-fields (f ∷ fields) (Some n ∷ vs) h =
    let fits : n ≤ (range_of f).greatest = h.0 in
    fine-decimal n (map piece vs) (omega (arith, greatest-small f)) (fine-fields fields vs h.1)
fine-fields _ _ h = absurd h

words-printed : (kind : Kind) → list_all is_printed (word_pieces kind) ≡ true
words-printed Ins = refl
words-printed _ = refl

-- with a space before each, the pieces of a kind's word are the word
words-spaced : (kind : Kind) → flat_map (λ w. 32 ∷ w) (word_pieces kind) ≡ 32 ∷ (form_of kind).word
words-spaced Ins = refl
words-spaced _ = refl

fine-words : (kind : Kind) → AreFine (word_pieces kind)
fine-words kind = record { printed = words-printed kind; spaceless = (pieces_of-are_pieces (form_of kind).word).apart }

pub fine-item : (item : Item) → FitsItem item → AreFine (item_pieces item)
fine-item item fits =
    fine-decimal item.event _ fits.event (fine-decimal item.proc.0 _ (omega (arith, fits.proc))
    (fine-append (word_pieces (parts_of item.what).kind) (map piece (parts_of item.what).fields) (fine-words (parts_of item.what).kind)
    (fine-fields (form_of (parts_of item.what).kind).fields (parts_of item.what).fields fits.what)))

fine-decimals : (counts : List ℕ) → All (λ n. n < 2 ^ 64) counts → AreFine (map decimal counts)
fine-decimals [] small = fine-nil
fine-decimals (n ∷ ns) small =
    fine-decimal n (map decimal ns) (All-head (λ n. n < 2 ^ 64) n ns small) (fine-decimals ns (All-tail (λ n. n < 2 ^ 64) n ns small))

fine-end : (end : End) (ps : List (List ℕ)) → AreFine ps → AreFine (end_word end ∷ ps)
fine-end AllDone ps h = fine-cons (end_word AllDone) ps refl (lacks_by_test 32 (end_word AllDone) refl) h
fine-end Stuck ps h = fine-cons (end_word Stuck) ps refl (lacks_by_test 32 (end_word Stuck) refl) h
fine-end Budget ps h = fine-cons (end_word Budget) ps refl (lacks_by_test 32 (end_word Budget) refl) h

pub fine-last : (counts : List ℕ) (end : End) (events : ℕ) → All (λ n. n < 2 ^ 64) counts → events < 2 ^ 64 → AreFine (last_pieces counts end events)
fine-last counts end events few small =
    fine-cons (codes "end") _ refl (lacks_by_test 32 (codes "end") refl)
    (fine-end end _ (fine-decimal events (map decimal counts) small (fine-decimals counts few)))

-- printed pieces make a printed line
joined-printed : (ps : List (List ℕ)) → list_all is_printed ps ≡ true → is_printed (join_with_byte 32 ps) ≡ true
joined-printed [] h = refl
joined-printed (p ∷ []) h = (and_parts (is_printed p) true h).0
joined-printed (p ∷ q ∷ ps) h =
    let both = and_parts (is_printed p) (list_all is_printed (q ∷ ps)) h in
    list_all-append (λ b. nat_le 32 b && nat_le b 126) p (32 ∷ join_with_byte 32 (q ∷ ps))
    ∙ and_from (is_printed p) (is_printed (join_with_byte 32 (q ∷ ps))) both.0 (joined-printed (q ∷ ps) both.1)

pub printed-lacks : (bytes : List ℕ) → is_printed bytes ≡ true → LacksLineFeed bytes
printed-lacks bytes h =
    All-weaker (λ b. (nat_le 32 b && nat_le b 126) ≡ true) (λ b. b ≢ 10)
    (λ b t. let low : 32 ≤ b = leb-true 32 b (and_parts (nat_le 32 b) (nat_le b 126) t).0 in omega arith) bytes
    (AllPass-from_list_all (λ b. nat_le 32 b && nat_le b 126) bytes h)

pub fine-lacks : (ps : List (List ℕ)) → AreFine ps → LacksLineFeed (join_with_byte 32 ps)
fine-lacks ps h = printed-lacks (join_with_byte 32 ps) (joined-printed ps h.printed)

pub pieces_in-line : (p : List ℕ) (ps : List (List ℕ)) → AreFine (p ∷ ps) → pieces_in (ended_line (p ∷ ps)) ≡ Ok (p ∷ ps)
pieces_in-line p ps h =
    ap (λ b. cond b (Ok (pieces_of (join_with_byte 32 (p ∷ ps)))) (Err NotAscii)) (joined-printed (p ∷ ps) h.printed)
    ∙ ap (λ qs. Ok qs) (sym (pieces_only (p ∷ ps) (join_with_byte 32 (p ∷ ps)) (record { joined = refl; some = omega arith; apart = h.spaceless })))

refused : (cause : Cause) (ps : List (List ℕ)) → Err cause ≡ Ok ps → ⊥
refused cause ps h = absurd cc

pub pieces_in-ok : (line : LineText) (ps : List (List ℕ)) → pieces_in line ≡ Ok ps → (line ≡ ended_line ps) × All LacksSpace ps
pieces_in-ok line ps h =
    elim (if_either (is_printed line.bytes) (cond line.ended (Ok (pieces_of line.bytes)) (Err Missing)) (Err NotAscii) (Ok ps) h) [
      | inl printed ↦ elim (if_either line.ended (Ok (pieces_of line.bytes)) (Err Missing) (Ok ps) printed.1) [
        | inl ended ↦
            let e = same_Ok (pieces_of line.bytes) ps ended.1 in (
              ap (λ (b : Bool). (λ (l : LineText). l) (record { bytes = line.bytes; ended = b })) ended.0
                  ∙ ap (λ (bs : List ℕ). (λ (l : LineText). l) (record { bytes = bs; ended = true }))
                  (sym (pieces_of-are_pieces line.bytes).joined ∙ ap (join_with_byte 32) e),
              subst (All LacksSpace) e (pieces_of-are_pieces line.bytes).apart,
            )
        | inr cut ↦ absurd (refused Missing ps cut.1)
      ]
      | inr other ↦ absurd (refused NotAscii ps other.1)
    ]

fields-spaced : (vs : List (Option ℕ)) → flat_map (λ w. 32 ∷ w) (map piece vs) ≡ flat_map field vs
fields-spaced [] = refl
fields-spaced (None ∷ vs) = ap (λ r. codes " -" ++ r) (fields-spaced vs)
fields-spaced (Some n ∷ vs) = ap (λ r. (codes " " ++ decimal n) ++ r) (fields-spaced vs)

counts-spaced : (counts : List ℕ) → flat_map (λ w. 32 ∷ w) (map decimal counts) ≡ counts_text counts
counts-spaced [] = refl
counts-spaced (n ∷ ns) = ap (λ r. (codes " " ++ decimal n) ++ r) (counts-spaced ns)

regroup_item : (e p w f : List ℕ) → (((e ++ (32 ∷ p)) ++ 32 ∷ []) ++ (w ++ f)) ≡ e ++ ((32 ∷ p) ++ ((32 ∷ w) ++ f))
regroup_item e p w f = simp append_assoc

-- what is printed of an item is its pieces
pub item_text-pieces : (item : Item) → item_text item ≡ join_with_byte 32 (item_pieces item)
item_text-pieces item =
    let kind = (parts_of item.what).kind in
    let fields = (parts_of item.what).fields in
    regroup_item (decimal item.event) (decimal item.proc.0) (form_of kind).word (flat_map field fields)
    ∙ ap (λ bs. decimal item.event ++ ((32 ∷ decimal item.proc.0) ++ bs))
    (sym (flat_map-append (λ w. 32 ∷ w) (word_pieces kind) (map piece fields) ∙ ap (λ bs. bs ++ flat_map (λ w. 32 ∷ w) (map piece fields)) (words-spaced kind)
    ∙ ap (λ bs. (32 ∷ (form_of kind).word) ++ bs) (fields-spaced fields)))
    ∙ sym (join-spaced (decimal item.event) (decimal item.proc.0 ∷ record_pieces item.what))

-- and its line is they and a line feed
pub line_of-pieces : (item : Item) → line_of item ≡ join_with_byte 32 (item_pieces item) ++ 10 ∷ []
line_of-pieces item = ap (λ bs. bs ++ 10 ∷ []) (item_text-pieces item)

regroup_last : (w e c : List ℕ) → ((((codes "end " ++ w) ++ (32 ∷ e)) ++ c) ++ 10 ∷ []) ≡ ((codes "end" ++ ((32 ∷ w) ++ ((32 ∷ e) ++ c))) ++ 10 ∷ [])
regroup_last w e c = simp append_assoc

pub last_line_of-pieces : (items : List Item) (end : End) (events : ℕ)
    → last_line_of items end events ≡ join_with_byte 32 (last_pieces (counts_of items) end events) ++ 10 ∷ []
last_line_of-pieces items end events =
    regroup_last (end_word end) (decimal events) (counts_text (counts_of items))
    ∙ ap (λ bs. (codes "end" ++ ((32 ∷ end_word end) ++ ((32 ∷ decimal events) ++ bs))) ++ 10 ∷ []) (sym (counts-spaced (counts_of items)))
    ∙ ap (λ bs. bs ++ 10 ∷ []) (sym (join-spaced (codes "end") (end_word end ∷ decimal events ∷ map decimal (counts_of items))))
