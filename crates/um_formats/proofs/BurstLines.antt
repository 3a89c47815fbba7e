-- The lines of `code` and `replay`: what a line means, when it is refused, and that a written line can be parsed back.
use Rattle.{
  std.{
    proofs.{
      lemmas.{Bool.{le-ltb, Decides.nat_tests, and_right, ne_eqb}, List.{get_or-set_same, length-set, length-take-le, take_all, take_more}},
      lemmas.List.{Elements.{All-cons, All-map, All-nil, All-replicate}, Splits.{join_with_byte-slice_split, length-slice_split}},
      lemmas.{List.{length-map, length-replicate}, Int.ints},
      Common.{get_or, Bool, Err, List, None, Ok, Some, [], append_assoc, ap, arith, codes, eqb, false, inl, inr, length-append},
      Common.{length, map, not, Option, pos, refl, replicate, set, sym, take, true, ℕ, ℤ, ◌&&◌, ◌++◌, ◌+◌, ◌-◌},
      Common.◌<◌,
      Common.{◌==◌, ◌∙◌, ◌∷◌, ◌≡◌, ◌≢◌, ◌≤◌, subst},
    },
    specs.{Cmp.Lexicographic.pointwise, Int.{cast_signed, w8}, List.{All, list_all}, Str.bytes_eq},
  },
  um_block.{
    proofs.Lemmas.AllSoftBits-softened,
    specs.{Received.{soft_bit_of, soft_bits}, bit_blocks.{Bits.AllBits, SoftValues.{AllSoftBits, IsSoftBit}}},
  },
  um_formats.specs.{
    BurstLines.{BurstLineMeans, burst_line, burst_line_fault, burst_line_of_meaning, burst_parse_result},
    CodeLines.{CodeLineMeans, code_line, code_line_fault, code_line_of_meaning},
    Held.{AddsNormalBurst, BurstBuffer, IsHardNormalBurstLine, IsSoftNormalBurstLine},
    SoftOctets.signed_octets,
    WrittenBursts.IsUnskippedLine,
    declared.{
      burst_lines.BurstLine.{TheVariants.{Access, Normal, Skip, Sync}, BurstLine},
      code.CodeLine.{TheVariants.{Block, Rach, Sch, Skip as CodeSkip}, CodeLine},
    },
  },
  um_lines.{
    proofs.FormLaws.{AreOctets, Each, line_by_forms, line_short, parsed_meaning, parsed_means, parsed_by_words, one_made, one_meaning},
    proofs.{SpelledLaws.{passing_lack, spelled_means, spelled_uncut}, Texts.words-join},
    specs.{
      BurstForms.{burst_line_forms, is_burst_out_of_order},
      CodeForms.code_line_forms,
      Fields.{BitDigits, FixedWord, NumberList, Value, bit_digits, fits_field, is_bit_digit, octets_from_hex},
      Forms.{LineForms, LineMeans, never_misplaced},
      Hex.is_hex_digit,
      Meanings.HasOneMeaningOrFault,
      Reading.LineParsesTo,
      Words.{IsNotSpace, is_skipped_line, words},
      declared.fault.LineFault.{TheVariants.Word, LineFault},
    },
  },
}
use Rattle.um_lines.specs.BurstForms as F
use Rattle.um_formats.specs.declared.show.ShowLine.TheVariants as S

infixr 30 ◌&◌
◌&◌ : {A B : Type 0} → A → B → A × B
◌&◌ a b = (a, b)

-- ## DigitWords: A text that consists of digits contains no space, so it is one word.

one_word_of : (p : ℕ → Bool) → p 32 ≡ false → (text : List ℕ) → list_all p text ≡ true → words text ≡ text ∷ []
one_word_of p fails text all =
    words-join (text ∷ []) (λ e. cc)
    (All-cons (All IsNotSpace) text [] (passing_lack 32 (omega arith) p fails text all) (All-nil (All IsNotSpace)))

pub bit_word : (text : List ℕ) → list_all is_bit_digit text ≡ true → words text ≡ text ∷ []
bit_word = one_word_of is_bit_digit refl

pub hex_word : (text : List ℕ) → list_all is_hex_digit text ≡ true → words text ≡ text ∷ []
hex_word = one_word_of is_hex_digit refl

pub whole_word : (text word : List ℕ) → words text ≡ word ∷ [] → words text ≡ text ∷ []
whole_word text word one = one ∙ ap (λ w. w ∷ []) (rw one at (join_with_byte-slice_split 32 text))

-- ## OtherBursts: Lemmas about input lines that are not valid burst lines.

pub other_letter : (held letter : ℕ) (rest : List (List ℕ)) → letter ≢ 110 → letter ≢ 78 → letter ≢ 97 → letter ≢ 65 →
    letter ≢ 115
    → letter ≢ 83 → burst_parse_result held ((letter ∷ []) ∷ rest) ≡ Err Word
other_letter held letter rest n N a A s S =
    rw (ne_eqb _ _ n, ne_eqb _ _ N, and_right (eqb letter 108) false refl, ne_eqb _ _ a, ne_eqb _ _ A, ne_eqb _ _ s, ne_eqb _ _ S)

pub other_kind : (held : ℕ) (kind text : List ℕ) → length kind ≢ 1 → burst_parse_result held (kind ∷ words text) ≡ Err Word
other_kind held [] text many = refl
other_kind held (first ∷ []) text many = absurd (many refl)
other_kind held (first ∷ second ∷ kind) text many =
    let alone = λ (other : ℕ). and_right (eqb first other) false refl in
    let some : 1 ≤ length (words text) = omega (arith, length-slice_split (λ octet. eqb octet 32) text) in
    rw (alone 110, alone 78, lost (words text) some, alone 97, alone 65, alone 115, alone 83)
  where
    lost : (rest : List (List ℕ)) → 1 ≤ length rest →
        (bytes_eq (first ∷ second ∷ kind) (codes "lost") && pointwise fits_field [] rest) ≡ false
    lost [] some = absurd (omega arith)
    lost (word ∷ rest) some = and_right (bytes_eq (first ∷ second ∷ kind) (codes "lost")) false refl

-- ## BurstLaws: Each line of `replay` either has exactly one meaning or is refused. A burst in a line consists of soft values from -127 to
-- 127.

pub one_burst_meaning : (held : ℕ) (line : List ℕ) → HasOneMeaningOrFault (burst_line_fault held line) (BurstLineMeans held line)
one_burst_meaning held line = one_made burst_line_of_meaning _ _ (one_meaning burst_line_forms (is_burst_out_of_order held) line refl)

-- an octet other than 0x80 stands for a soft value, -127 to 127
soft_octet : (octet : ℕ) → octet < 256 → octet ≢ 128 → IsSoftBit (cast_signed w8 octet)
soft_octet octet small other = grind (arith, ints, nat_tests)

-- a list of `count` soft values, -127 to 127
abbrev pub AreSoft : ℕ → List ℤ → Type 0
AreSoft count values = (length values ≡ count) × AllSoftBits values

pub hard : (count : ℕ) (bits : List ℕ) → (length bits ≡ count) × AllBits bits → AreSoft count (soft_bits bits)
hard count bits known = (length-map bits soft_bit_of ∙ known.0, AllSoftBits-softened bits)

pub soft : (count : ℕ) (octets : List ℕ) → AreOctets count octets × All (λ octet. octet ≢ 128) octets →
    AreSoft count (signed_octets octets)
soft count octets known = (
  length-map octets (cast_signed w8) ∙ known.0.0,
  All-map IsSoftBit (cast_signed w8) octets (λ i d h. soft_octet _ (known.0.1 i d h) (known.1 i d h)),
)

pub lost : AreSoft 148 (replicate 148 (pos 0))
lost = (length-replicate 148 (pos 0), All-replicate IsSoftBit 148 (pos 0) (omega (arith, ints), omega (arith, ints)))

none_held : (held : ℕ) → (not (held == 0) && true) ≡ false → held ≡ 0
none_held held e = grind (arith, nat_tests)

-- a burst has the number of soft values that its kind requires, and no burst of an incomplete block is held before an access or
-- synchronisation burst
abbrev IsBurst : (held : ℕ) → BurstLine → Type 0
IsBurst held Skip = Unit {0}
IsBurst held (Normal values) = AreSoft 148 values
IsBurst held (Access bsic values) = (held ≡ 0) × (length bsic ≡ 6) × AllBits bsic × AreSoft 88 values
IsBurst held (Sync values) = (held ≡ 0) × AreSoft 148 values

is_burst : (held : ℕ) (line : List ℕ) (meaning : BurstLine) → BurstLineMeans held line meaning → IsBurst held meaning
is_burst held =
    line_by_forms burst_line_forms (is_burst_out_of_order held) burst_line_of_meaning (IsBurst held) tt
    ((λ _ _ _ (bits, _, is, known, none). rw (is, none) (hard 148 bits known))
    & (λ _ _ _ (octets, _, is, known, none). rw (is, none) (soft 148 octets known))
    & (λ _ _ _ none. rw none lost)
    & (λ _ _ here (bsic, _, is, known, (bits, _, is', known', none)).
    rw (is, is', none) (none_held held here, known.0, known.1, hard 88 bits known'))
    & (λ _ _ here (bsic, _, is, known, (octets, _, is', known', none)).
    rw (is, is', none) (none_held held here, known.0, known.1, soft 88 octets known'))
    & (λ _ _ here (bits, _, is, known, none). rw (is, none) (none_held held here, hard 148 bits known))
    & (λ _ _ here (octets, _, is, known, none). rw (is, none) (none_held held here, soft 148 octets known))
    & tt)

pub normal_burst : (held : ℕ) (line : List ℕ) (values : List ℤ) → BurstLineMeans held line (Normal values)
    → (length values ≡ 148) × AllSoftBits values
normal_burst held line values = is_burst held line (Normal values)

pub access_burst : (held : ℕ) (line bsic : List ℕ) (values : List ℤ) → BurstLineMeans held line (Access bsic values)
    → (held ≡ 0) × (length bsic ≡ 6) × AllBits bsic × (length values ≡ 88) × AllSoftBits values
access_burst held line bsic values means =
    let known = is_burst held line (Access bsic values) means in
    (known.0, known.1, known.2, known.3.0, known.3.1)

pub sync_burst : (held : ℕ) (line : List ℕ) (values : List ℤ) → BurstLineMeans held line (Sync values)
    → (held ≡ 0) × (length values ≡ 148) × AllSoftBits values
sync_burst held line values means =
    let known = is_burst held line (Sync values) means in
    (known.0, known.1.0, known.1.1)

pub short : (held : ℕ) (line : List ℕ) (meaning : BurstLine) → BurstLineMeans held line meaning → length line ≤ 4096
short held = line_short burst_line_forms (is_burst_out_of_order held) burst_line_of_meaning

-- the burst at the first free place of the buffer, held beside the others
pub next_held : (slots : List (List ℤ)) (held : ℕ) → held < length slots →
    take (held + 1) slots ≡ take held slots ++ get_or slots (length (take held slots)) [] ∷ []
next_held slots held free =
    let count : length (take held slots) ≡ held = length-take-le held slots (omega arith) in rw count (take_more slots held [] free)

pub fourth_held : (slots : List (List ℤ)) (held : ℕ) → length slots ≡ 4 → held ≡ 3 →
    slots ≡ take held slots ++ get_or slots (length (take held slots)) [] ∷ []
fourth_held slots held four last = sym (take_all (held + 1) slots (omega arith)) ∙ next_held slots held (omega arith)

-- a burst written to the first free place is the one that the buffer holds next
pub written_next : (slots : List (List ℤ)) (held : ℕ) (burst : List ℤ) → held < length slots →
    get_or (set slots held burst) (length (take held (set slots held burst))) [] ≡ burst
written_next slots held burst free =
    let count : length (take held (set slots held burst)) ≡ held =
    length-take-le held (set slots held burst) (omega (arith, length-set slots held burst)) in
    rw count (get_or-set_same slots held burst [] free)

pub adds_next : (old mid new : BurstBuffer) (burst next : List ℤ) (completes : Bool) → mid.held ≡ old.held → next ≡ burst →
    AddsNormalBurst mid next completes new → AddsNormalBurst old burst completes new
adds_next old mid new burst next false held is adds = (rw (← held, ← is) adds.0, adds.1)
adds_next old mid new burst next true held is adds = (rw (← held, ← is) adds.0, adds.1, adds.2)

pub hard_values : (digits : List ℕ) → AllSoftBits (soft_bits (map (λ octet. octet - 48) digits))
hard_values digits = AllSoftBits-softened (map (λ octet. octet - 48) digits)

-- ## NormalLines: A valid line of a normal burst is not refused, and means the soft values of the burst.

never_out_of_order : (held : ℕ) → (not (held == 0) && false) ≡ false
never_out_of_order held = and_right (not (held == 0)) false refl

-- the meaning of a line is the normal burst with the given soft values, and the line is not refused
abbrev IsRead : ℕ → List ℕ → List ℤ → Type 0
IsRead held line soft = BurstLineMeans held line (Normal soft) × (None ≡ burst_line_fault held line)

read_line : (held : ℕ) (line : List ℕ) (ws : List (List ℕ)) (soft : List ℤ) → words line ≡ ws → length line ≤ 4096 →
    is_skipped_line line ≡ false → burst_parse_result held ws ≡ Ok (Normal soft) → IsRead held line soft
read_line held line ws soft is short stays read =
    (parsed_by_words burst_line_forms (is_burst_out_of_order held) burst_line_of_meaning line (Ok false) (Ok (Normal soft))
    (rw (le-ltb 4096 (length line) short, stays) refl) (sym (ap (burst_parse_result held) is ∙ read))).0

pub hard_line : (held : ℕ) (line digits : List ℕ) → IsHardNormalBurstLine line digits →
    IsRead held line (soft_bits (map (λ octet. octet - 48) digits))
hard_line held line digits h =
    rw h.line_form (read_line held (codes "n " ++ digits) _ _ (ap (λ ws. codes "n" ∷ ws) (bit_word digits h.all_bit_digits))
    (omega (arith, h.right_length)) refl (rw (never_out_of_order held, h.all_bit_digits, h.right_length)))

pub soft_line : (held : ℕ) (line digits : List ℕ) → IsSoftNormalBurstLine line digits →
    IsRead held line (signed_octets (octets_from_hex digits))
soft_line held line digits h =
    let o = h.octets in
    rw o.line_form (read_line held (codes "N " ++ digits) _ _ (ap (λ ws. codes "N" ∷ ws) (hex_word digits o.all_hex_digits))
    (omega (arith, o.right_length)) refl (rw (never_out_of_order held, o.all_hex_digits, o.right_length, h.in_range)))

pub soft_within : (line digits : List ℕ) → IsSoftNormalBurstLine line digits → AllSoftBits (signed_octets (octets_from_hex digits))
soft_within line digits h = (normal_burst 0 line _ (soft_line 0 line digits h).0).1

-- ## WrittenBursts: Parsing the line that is written for a burst gives the burst back.

-- the text line of a normal burst, without its line feed
abbrev pub normal_line : List ℕ → List ℕ
normal_line burst = codes "n " ++ bit_digits burst

abbrev pub access_line : List ℕ → List ℕ → List ℕ
access_line bsic burst = codes "a " ++ bit_digits bsic ++ codes " " ++ bit_digits burst

abbrev pub sync_line : List ℕ → List ℕ
sync_line burst = codes "s " ++ bit_digits burst

length-bit_digits : (bits : List ℕ) → length (bit_digits bits) ≡ length bits
length-bit_digits bits = length-map bits (λ bit. 48 + bit)

-- ---- parsing the line that is written for a burst gives the soft values of the burst

pub normal_restored : (held : ℕ) (burst : List ℕ) → length burst ≡ 148 → AllBits burst
    → BurstLineMeans held (normal_line burst) (Normal (soft_bits burst))
normal_restored held burst many each = (
  Some (F.Normal, NumberList burst ∷ []),
  spelled_means burst_line_forms (is_burst_out_of_order held) F.Normal (codes "n") (BitDigits 148 ∷ []) (NumberList burst ∷ [])
      (inl refl) (never_out_of_order held) refl (burst, [], refl, (many, each), refl) tt (omega (arith, length-bit_digits burst)) refl,
  refl,
)

pub sync_restored : (burst : List ℕ) → length burst ≡ 148 → AllBits burst →
    BurstLineMeans 0 (sync_line burst) (Sync (soft_bits burst))
sync_restored burst many each = (
  Some (F.Sync, NumberList burst ∷ []),
  spelled_means burst_line_forms (is_burst_out_of_order 0) F.Sync (codes "s") (BitDigits 148 ∷ []) (NumberList burst ∷ [])
      (inr (inr (inr (inr (inr (inl refl)))))) refl refl (burst, [], refl, (many, each), refl) tt
      (omega (arith, length-bit_digits burst)) refl,
  refl,
)

pub access_restored : (bsic burst : List ℕ) → length bsic ≡ 6 → AllBits bsic → length burst ≡ 88 → AllBits burst
    → BurstLineMeans 0 (access_line bsic burst) (Access bsic (soft_bits burst))
access_restored bsic burst few bits many each = rw append_assoc (
  Some (F.Access, NumberList bsic ∷ NumberList burst ∷ []),
  spelled_means burst_line_forms (is_burst_out_of_order 0) F.Access (codes "a") (BitDigits 6 ∷ BitDigits 88 ∷ [])
      (NumberList bsic ∷ NumberList burst ∷ []) (inr (inr (inr (inl refl)))) refl refl
      (bsic, _, refl, (few, bits), (burst, [], refl, (many, each), refl)) tt
      (omega (arith, length-append (bit_digits bsic) (32 ∷ bit_digits burst), length-bit_digits bsic, length-bit_digits burst)) refl,
  refl,
)

-- ---- the line that is written for a burst contains no line feed

pub normal_whole : (burst : List ℕ) → length burst ≡ 148 → AllBits burst → IsUnskippedLine (normal_line burst)
normal_whole burst many each = record {
  no_line_feed = spelled_uncut (FixedWord (codes "n") ∷ BitDigits 148 ∷ []) (NumberList burst ∷ []) refl
      (burst, [], refl, (many, each), refl);
  not_skipped = refl;
}

pub sync_whole : (burst : List ℕ) → length burst ≡ 148 → AllBits burst → IsUnskippedLine (sync_line burst)
sync_whole burst many each = record {
  no_line_feed = spelled_uncut (FixedWord (codes "s") ∷ BitDigits 148 ∷ []) (NumberList burst ∷ []) refl
      (burst, [], refl, (many, each), refl);
  not_skipped = refl;
}

pub access_whole : (bsic burst : List ℕ) → length bsic ≡ 6 → AllBits bsic → length burst ≡ 88 → AllBits burst
    → IsUnskippedLine (access_line bsic burst)
access_whole bsic burst few bits many each = record {
  no_line_feed = subst (All (λ octet. octet ≢ 10))
      (ap (λ rest. 97 ∷ 32 ∷ rest) (sym (append_assoc (bit_digits bsic) (codes " ") (bit_digits burst))))
      (spelled_uncut (FixedWord (codes "a") ∷ BitDigits 6 ∷ BitDigits 88 ∷ []) (NumberList bsic ∷ NumberList burst ∷ []) refl
      (bsic, _, refl, (few, bits), (burst, [], refl, (many, each), refl)));
  not_skipped = refl;
}

-- ## CodeLaws: Each line of `code` either has exactly one meaning or is refused, and the information in a line can be sent.

pub one_code_meaning : (line : List ℕ) → HasOneMeaningOrFault (code_line_fault line) (CodeLineMeans line)
one_code_meaning line = one_made code_line_of_meaning _ _ (one_meaning code_line_forms never_misplaced line refl)

-- the information in a line can be sent: a training sequence code and 23 octets, or 8 bits and a BSIC, or 25 bits
abbrev pub CanBeSent : CodeLine → Type 0
CanBeSent CodeSkip = Unit {0}
CanBeSent (Block tsc octets) = (tsc ≤ 7) × AreOctets 23 octets
CanBeSent (Rach info bsic) = ((length info ≡ 8) × AllBits info) × ((length bsic ≡ 6) × AllBits bsic)
CanBeSent (Sch info) = (length info ≡ 25) × AllBits info

pub can_be_sent : (line : List ℕ) (meaning : CodeLine) → CodeLineMeans line meaning → CanBeSent meaning
can_be_sent =
    line_by_forms code_line_forms never_misplaced code_line_of_meaning CanBeSent tt
    ((λ _ _ _ (tsc, _, is, within, (octets, _, is', known, none)). rw (is, is', none) (within, known))
    & (λ _ _ _ (info, _, is, known, (bsic, _, is', known', none)). rw (is, is', none) (known, known'))
    & (λ _ _ _ (info, _, is, known, none). rw (is, none) known)
    & tt)

-- a line of `replay` that has a meaning parses to it, and one that has a fault to the fault
pub burst_line_meaning : (held : ℕ) (line : List ℕ) (meaning : BurstLine) → BurstLineMeans held line meaning →
    burst_line held line ≡ Ok meaning
unfolding burst_line
burst_line_meaning held line meaning means =
    parsed_meaning burst_line_forms (is_burst_out_of_order held) burst_line_of_meaning line meaning refl means

pub burst_line_means : (held : ℕ) (line : List ℕ) (meaning : BurstLine) → burst_line held line ≡ Ok meaning →
    BurstLineMeans held line meaning
unfolding burst_line
burst_line_means held line meaning is =
    parsed_means burst_line_forms (is_burst_out_of_order held) burst_line_of_meaning line meaning is

pub code_line_means : (line : List ℕ) (meaning : CodeLine) → code_line line ≡ Ok meaning → CodeLineMeans line meaning
unfolding code_line
code_line_means line meaning is = parsed_means code_line_forms never_misplaced code_line_of_meaning line meaning is

pub burst_line_refused : (held : ℕ) (line : List ℕ) (fault : LineFault) → burst_line_fault held line ≡ Some fault →
    burst_line held line ≡ Err fault
unfolding burst_line
burst_line_refused held line fault bad = rw bad refl

-- ## Unskipped: A line that has a form never has the meaning of a skipped line.

module _ {Name A : Type 0} (table : LineForms Name) (misplaced : Name → Bool) (make : Option (Name × List Value) → A) (skip : A) where
  abbrev IsUnskipped : Option (Name × List Value) → Type 0
  IsUnskipped None = Unit {0}
  IsUnskipped (Some meaning) = make (Some meaning) ≢ skip

  pub skipped_only : Each misplaced (λ name values. make (Some (name, values)) ≢ skip) table → (line : List ℕ) →
      LineParsesTo table misplaced make line skip → LineMeans table misplaced line None
  skipped_only each line (None, means, is) = means
  skipped_only each line (Some meaning, means, is) =
      let unskipped = line_by_forms table misplaced (λ meaning. meaning) IsUnskipped tt each line in
      absurd (unskipped (Some meaning) (Some meaning, means, refl) (sym is))

pub skipped_burst_line : (held : ℕ) (line : List ℕ) → BurstLineMeans held line Skip →
    LineMeans burst_line_forms (is_burst_out_of_order held) line None
skipped_burst_line held =
    skipped_only burst_line_forms (is_burst_out_of_order held) burst_line_of_meaning Skip
    ((λ _ _ _ (bits, _, is, _, none). rw (is, none) (λ q. cc))
    & (λ _ _ _ (octets, _, is, _, none). rw (is, none) (λ q. cc))
    & (λ _ _ _ none. rw none (λ q. cc))
    & (λ _ _ _ (bsic, _, is, _, (bits, _, is', _, none)). rw (is, is', none) (λ q. cc))
    & (λ _ _ _ (bsic, _, is, _, (octets, _, is', _, none)). rw (is, is', none) (λ q. cc))
    & (λ _ _ _ (bits, _, is, _, none). rw (is, none) (λ q. cc))
    & (λ _ _ _ (octets, _, is, _, none). rw (is, none) (λ q. cc))
    & tt)

pub skipped_code_line : (line : List ℕ) → CodeLineMeans line CodeSkip → LineMeans code_line_forms never_misplaced line None
skipped_code_line =
    skipped_only code_line_forms never_misplaced code_line_of_meaning CodeSkip
    ((λ _ _ _ (tsc, _, is, _, (octets, _, is', _, none)). rw (is, is', none) (λ q. cc))
    & (λ _ _ _ (info, _, is, _, (bsic, _, is', _, none)). rw (is, is', none) (λ q. cc))
    & (λ _ _ _ (info, _, is, _, none). rw (is, none) (λ q. cc))
    & tt)
