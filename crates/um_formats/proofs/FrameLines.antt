-- The lines of `show` and the texts of reports: what a line means, when it is refused, and that a written line can be parsed back.
use Rattle.{
  std.{
    proofs.lemmas.{Bool.{cases_eq, cases_Bool}, List.{Splits.join_with_byte-slice_split, append_cancel_right}, Slice.Eq.bytes_eq-Decides},
    proofs.Common.{Bool, Err, List, None, Ok, Option, Result, Some, [], append-nil, ap, arith, codes, drop, false, inl, inr, length, map},
    proofs.Common.negsuc,
    proofs.Common.{not, pos, refl, replicate, sym, take, true, ℕ, ◌++◌, ◌+◌, ◌-◌, ◌<◌, ◌∙◌, ◌∷◌, ◌≡◌},
    proofs.Common.{◌≢◌, ◌≤◌, ◌⊎◌, if◌then◌else◌, subst},
    specs.{List.join_with_byte, Prelude.{IfSome, MatchOption}, Str.bytes_eq},
  },
  lapdm_frame.{
    specs.{
      Computed.frame_reading,
      Readings.IsOnlyReading,
      Content.{Content, Fields, Frame, I, Rnr, Ui, content_of_fields, fields_of_content, fields, information, all_frame_kinds},
      Frames.{FrameFits, InformationFits, IsCanonicalCoding, bit_of_bool, octets_of, IsFrameCoding},
      Refusals.{IsRefused, RefusalAppliesToBlock, refusal_test_index},
      declared.{Channel.TheVariants.Sdcch, Kind.Kind, Refusal.{TheVariants.Ea, Refusal}},
    },
    proofs.Lemmas.{FieldsFit, content_fits, fields_fit, IsOnlyReading-frame_reading, never_refused, octets_canonical, same_canonical},
    proofs.Lemmas.same_frame,
    proofs.Lemmas.{same_reason, bit_bound},
  },
  um_block.specs.{Received.soft_bits, bit_blocks.Octets.{AllOctets, octets_of as octets_of_bits}, declared.received.Received.Received},
  um_formats.proofs.BurstLines.skipped_only,
  um_formats.specs.{
    FrameTexts.{IsTextOfOctets, frame_text, frame_values, octets_text, line_values_of_fields, line_syntax_of_frame, text_of_octets},
    FrameTexts.text_of_reading,
    FrameTexts.unreadable_frame_text,
    Reports.{IsBlockReportText, block_report_line, block_report_text, text_of_accepted},
    ShowLines.{ShowLineMeans, content_from_values, frame_from_values, is_bit_set, show_line_fault, show_line_of_frame},
    ShowLines.{show_line_of_meaning, show_line_of_values, show_parse_result},
    ShowReading.{frame_line_words, min_info_octets},
    SoftOctets.signed_octets,
    WrittenBursts.IsUnskippedLine,
    declared.{burst_lines.BurstLine.TheVariants.Skip, frame_words.FrameWords.FrameWords, show.ShowLine.ShowLine},
  },
  um_lines.{
    proofs.{
      FormLaws.{AreOctets, Each, Fitting, line_by_forms, one_made, one_meaning},
      SpelledLaws.{fixed_words_lack, length-encode_lower, spelled_means, spelled_uncut},
    },
    specs.Fields.{LineField, FixedWord, HexOctets, NumberList, Number, Value, has_wrong_digits, has_wrong_length, octets_from_hex},
    specs.Forms.{AreDistinct, Exactly, IsTableEntry, LineMeans, fault_or_value, has_faulty_word, line_meaning, never_misplaced},
    specs.{Forms.{bit_indices_of_values, values_of_words}, Hex.{encode_lower, encode_with}, Meanings.HasOneMeaningOrFault},
    specs.ShowForms.{FrameFormat, NumberedInfo, ShowLineKind, Supervisory, WithInfo, WithoutInfo, frame_fields, fields_of_frame_format},
    specs.{ShowForms.{show_line_forms, syntax}, LineTexts.{line_of_values, octets_word}, Words.words},
    specs.declared.fault.LineFault.TheVariants.{Digits, Length, Word},
  },
}
use Rattle.um_formats.specs.declared.show.ShowLine.TheVariants as S
use Rattle.um_lines.specs.ShowForms as SF
use Rattle.lapdm_frame.specs.declared.Kind.TheVariants as K

-- ## ReportLaws: Any 23 octets have exactly one text, and so has the report on a received block.

pub one_frame_text : (octets a b : List ℕ) → IsTextOfOctets octets a → IsTextOfOctets octets b → a ≡ b
one_frame_text octets a b x y = grind (arith, same_frame, same_reason, never_refused)

pub IsTextOfOctets-text_of_octets : (octets : List ℕ) → length octets ≡ 23 → IsTextOfOctets octets (text_of_octets octets)
unfolding text_of_octets
IsTextOfOctets-text_of_octets octets count = go (frame_reading Sdcch octets) (IsOnlyReading-frame_reading Sdcch octets count)
  where
    go : (reading : Result Frame Refusal) → IsOnlyReading Sdcch octets reading → IsTextOfOctets octets (text_of_reading reading)
    go (Ok f) only = inl (f, only.frame, refl)
    go (Err reason) only = inr (reason, only.refused, refl)

pub text_of_octets-only : (octets text : List ℕ) → length octets ≡ 23 → IsTextOfOctets octets text →
    text ≡ text_of_octets octets
text_of_octets-only octets text count is = one_frame_text octets text _ is (IsTextOfOctets-text_of_octets octets count)

pub written_text : (octets text out : List ℕ) → length octets ≡ 23 → IsTextOfOctets octets text → out ≡ text →
    out ≡ text_of_octets octets
written_text octets text out count is e = e ∙ text_of_octets-only octets text count is

pub IsBlockReportText-block_report_text : (r : Received) → IfSome r.accepted (λ octets. length octets ≡ 23) →
    IsBlockReportText r (block_report_text r)
IsBlockReportText-block_report_text r = go (block_report_line r) r.accepted
  where
    go : (line : List ℕ) (accepted : Option (List ℕ)) → IfSome accepted (λ octets. length octets ≡ 23) →
        MatchOption accepted (line ++ text_of_accepted accepted ≡ line) (λ octets. (second : List ℕ) × IsTextOfOctets octets second
        × (line ++ text_of_accepted accepted ≡ line ++ second))
    go line None count = append-nil line
    go line (Some octets) count = (text_of_octets octets, IsTextOfOctets-text_of_octets octets count, refl)

pub block_report_text-only : (r : Received) (text : List ℕ) → IfSome r.accepted (λ octets. length octets ≡ 23) →
    IsBlockReportText r text → text ≡ block_report_text r
block_report_text-only r = go (block_report_line r) r.accepted
  where
    go : (line : List ℕ) (accepted : Option (List ℕ)) (text : List ℕ) → IfSome accepted (λ octets. length octets ≡ 23) →
        MatchOption accepted (text ≡ line) (λ octets. (second : List ℕ) × IsTextOfOctets octets second
        × (text ≡ line ++ second)) →
        text ≡ line ++ text_of_accepted accepted
    go line None text count is = rw append-nil is
    go line (Some octets) text count (second, is, e) = rw (← text_of_octets-only octets second count is) e

-- ## ShowReading: The meaning of the words in a line of `show`: when the line matches no form, and which frame it describes.

-- ---- if a line begins with neither `octets` nor `frame`, parsing it gives the fault `Word`

-- if the first word of a line is `name`, but the line does not begin with `name` and a space, `name` is its only word
pub alone : (name line word : List ℕ) (more : List (List ℕ)) → join_with_byte 32 (word ∷ more) ≡ line
    → ((rest : List ℕ) → line ≢ name ++ 32 ∷ rest) → bytes_eq word name ≡ true → name ∷ [] ≡ word ∷ more
alone name line word [] whole other same = rw ((bytes_eq-Decides word name).0 same)
alone name line word (next ∷ more) whole other same = absurd (other _ (sym (rw ((bytes_eq-Decides word name).0 same) at whole)))

unknown_first_word : (line : List ℕ) (parts : List (List ℕ)) → join_with_byte 32 parts ≡ line
    → ((rest : List ℕ) → line ≢ codes "octets " ++ rest) → ((rest : List ℕ) → line ≢ codes "frame " ++ rest)
    → Err Word ≡ show_parse_result parts
unknown_first_word line [] whole octets frame = refl
unknown_first_word line (word ∷ more) whole octets frame =
    elim (cases_Bool (bytes_eq word (codes "octets"))) [
      | inl same ↦ ap show_parse_result (alone (codes "octets") line word more whole octets same)
      | inr other ↦ elim (cases_Bool (bytes_eq word (codes "frame"))) [
        | inl same ↦ ap show_parse_result (alone (codes "frame") line word more whole frame same)
        | inr another ↦ rw (other, another)
      ]
    ]

-- a line that begins with neither `octets ` nor `frame ` matches no form: parsing it gives the fault `Word`
pub no_name : (line : List ℕ) → ((rest : List ℕ) → line ≢ codes "octets " ++ rest) →
    ((rest : List ℕ) → line ≢ codes "frame " ++ rest)
    → Err Word ≡ show_parse_result (words line)
no_name line = unknown_first_word line (words line) (join_with_byte-slice_split 32 line)

-- ---- the words of a line determine the frame that the line describes, or the fault

-- parsing the words `parts` gives the fault `Digits` if digits in `found` are wrong, otherwise `Length` if a length is wrong, otherwise the
-- frame that the words `found` describe
abbrev IsReadAs : List (List ℕ) → Kind → List (List ℕ) → Type 0
IsReadAs parts kind found =
    let form = frame_fields (syntax kind) in
    show_parse_result parts ≡ fault_or_value (if has_faulty_word has_wrong_digits form found then Some Digits
    else if has_faulty_word has_wrong_length form found then Some Length
    else None) (show_line_of_frame (frame_from_values (SF.Frame kind) (values_of_words form found)))

are_read : (w : FrameWords) (kind : Kind) → w.kind ≡ kind → IsReadAs (frame_line_words w) kind (frame_line_words w)
are_read w K.I is = rw is
are_read w other is = rw is

abbrev is_faulty : (LineField → List ℕ → Bool) → FrameWords → Bool
is_faulty is_against w = has_faulty_word is_against (frame_fields (syntax w.kind)) (frame_line_words w)

module _ (parts : List (List ℕ)) (w : FrameWords) (e : parts ≡ frame_line_words w) where
  pub read : IsReadAs parts w.kind (frame_line_words w)
  read = ap show_parse_result e ∙ are_read w w.kind refl

  pub refused_for_digits : is_faulty has_wrong_digits w ≡ true → Err Digits ≡ show_parse_result parts
  refused_for_digits wrong = sym (read ∙ rw wrong)

  pub refused_for_length : is_faulty has_wrong_digits w ≡ false → is_faulty has_wrong_length w ≡ true →
      Err Length ≡ show_parse_result parts
  refused_for_length right wrong = sym (read ∙ rw (right, wrong))

  pub read_frame : (f : Frame) → is_faulty has_wrong_digits w ≡ false → is_faulty has_wrong_length w ≡ false →
      frame_from_values (SF.Frame w.kind) (values_of_words (frame_fields (syntax w.kind)) (frame_line_words w)) ≡ Some f →
      Ok (S.Frame (octets_of Sdcch f)) ≡ show_parse_result parts
  read_frame f right many is = sym (read ∙ rw (right, many, is))

-- ## ShowLaws: Each line of `show` either has exactly one meaning or is refused, and a frame that a line describes fits in a block.

pub one_show_meaning : (line : List ℕ) → HasOneMeaningOrFault (show_line_fault line) (ShowLineMeans line)
one_show_meaning line = one_made show_line_of_meaning _ _ (one_meaning show_line_forms never_misplaced line refl)

-- the meaning of a line, together with the frame that the line describes, if any
abbrev line_said : Option (ShowLineKind × List Value) → ShowLine × Option Frame
line_said None = (S.Skip, None)
line_said (Some meaning) = (show_line_of_values meaning.0 meaning.1, frame_from_values meaning.0 meaning.1)

-- a line holds 23 octets, or the frame that it describes, if any, fits in a block
abbrev IsKnown : ShowLine × Option Frame → Type 0
IsKnown (S.Octets octets, f) = AreOctets 23 octets
IsKnown (other, f) = IfSome f (FrameFits Sdcch)

-- values that fit the fields of a frame format describe a frame of the given kind, whose N(S), N(R) and information length are in range
said_fields : (shape : FrameFormat) (kind : Kind) (values : List Value) → Fitting (fields_of_frame_format shape) values →
    (f : Fields) × (content_from_values shape kind values ≡ Some (content_of_fields f)) × (f.kind ≡ kind) × (f.ns ≤ 7)
    × (f.nr ≤ 7) × (min_info_octets shape ≤ length f.info) × (length f.info ≤ 20)
said_fields NumberedInfo kind values (ns, _, e1, sent, (nr, _, e2, got, (p, _, e3, _, (m, _, e4, _, (info, _, e5, fits, none))))) =
    rw (e1, e2, e3, e4, e5, none) (fields kind ns nr (is_bit_set p) (is_bit_set m) info, refl, refl, sent, got, fits.0, fits.1)
said_fields Supervisory kind values (nr, _, e1, got, (pf, _, e2, _, none)) =
    rw (e1, e2, none) (fields kind 0 nr (is_bit_set pf) false [], refl, refl, omega arith, got, omega arith, omega arith)
said_fields (WithInfo name) kind values (pf, _, e1, _, (info, _, e2, fits, none)) =
    rw (e1, e2, none) (fields kind 0 0 (is_bit_set pf) false info, refl, refl, omega arith, omega arith, omega arith, fits.1)
said_fields (WithoutInfo name) kind values (pf, _, e1, _, none) =
    rw (e1, none) (fields kind 0 0 (is_bit_set pf) false [], refl, refl, omega arith, omega arith, omega arith, omega arith)

-- for each of these frame kinds, values that fit the form of the kind describe a frame that fits in a block
each_frame : (ks : List Kind) → Each never_misplaced (λ name values. IsKnown (line_said (Some (name, values))))
    (map (λ kind. (SF.Frame kind, Exactly (frame_fields (syntax kind)))) ks)
each_frame [] = tt
each_frame (kind ∷ ks) = (
  λ _ _ _ (s, _, e1, small, (cr, vs, e2, _, rest)).
      let x = said_fields (syntax kind).shape kind vs (rw (append-nil (fields_of_frame_format (syntax kind).shape)) at rest) in
      let fits = content_fits Sdcch x.0 (record {
        sent = x.3;
        received = x.4;
        nonempty = λ is_i. subst (λ k. min_info_octets (syntax k).shape ≤ length x.0.info) (sym x.2 ∙ is_i) x.5;
        at_most = x.6;
      }) in
      rw (e1, e2, x.1) (record { sapi = small; ns_nr_fit = fits.0; information = fits.1 }),
  each_frame ks,
)

pub known : (line : List ℕ) (meaning : Option (ShowLineKind × List Value)) → LineMeans show_line_forms never_misplaced line meaning →
    IsKnown (line_said meaning)
known line meaning means =
    line_by_forms show_line_forms never_misplaced line_said IsKnown tt
    (λ _ _ _ (octets, _, is, known, none). rw (is, none) known, each_frame all_frame_kinds)
    line (line_said meaning) (meaning, means, refl)

said_fits : (line : List ℕ) (name : ShowLineKind) (values : List Value) (f : Frame)
    → LineMeans show_line_forms never_misplaced line (Some (name, values)) → frame_from_values name values ≡ Some f →
    FrameFits Sdcch f
said_fits line x values f means is = let k = known line (Some (x, values)) means in grind arith

-- ---- a line of `show` that has a form is not skipped

each_unskipped : (ks : List Kind) → Each never_misplaced (λ name values. show_line_of_values name values ≢ S.Skip)
    (map (λ kind. (SF.Frame kind, Exactly (frame_fields (syntax kind)))) ks)
each_unskipped [] = tt
each_unskipped (kind ∷ ks) = (
  λ _ _ _ (s, _, e1, _, (cr, vs, e2, _, rest)).
      let x = said_fields (syntax kind).shape kind vs (rw (append-nil (fields_of_frame_format (syntax kind).shape)) at rest) in
      rw (e1, e2, x.1) (λ q. cc),
  each_unskipped ks,
)

pub skipped_show_line : (line : List ℕ) → ShowLineMeans line S.Skip → LineMeans show_line_forms never_misplaced line None
skipped_show_line =
    skipped_only show_line_forms never_misplaced show_line_of_meaning S.Skip
    (λ _ _ _ (octets, _, is, _, none). rw (is, none) (λ q. cc), each_unskipped all_frame_kinds)

-- ## WrittenFrames: Parsing the lines that `show` writes for frames and octets gives these frames and octets back.

length-octets_word : (octets : List ℕ) → length octets ≤ 20 → length (octets_word octets) ≤ 40
length-octets_word x few = grind (arith, length-encode_lower)

-- ---- definitions for the line that is written for a frame

abbrev pub kind : Content → Kind
kind content = (fields_of_content content).kind

abbrev frame : ℕ → Bool → Content → Frame
frame s cr content = record { sapi = s; cr = cr; content = content }

abbrev pub written : Frame → List ℕ
written f = line_of_values (frame_fields (line_syntax_of_frame f)) (frame_values f)

set_bit : (b : Bool) → is_bit_set (bit_of_bool b) ≡ b
set_bit x = grind arith

-- the line form for the kind of a frame is in the table, and the values that are written for the frame describe this frame
record IsWritten (s : ℕ) (cr : Bool) (content : Content) : Type 0 where
  pub form_of_table : IsTableEntry show_line_forms (SF.Frame (kind content), Exactly (frame_fields (syntax (kind content))))
  pub frame_is : frame_from_values (SF.Frame (kind content)) (frame_values (frame s cr content)) ≡ Some (frame s cr content)
  pub once : AreDistinct (bit_indices_of_values (frame_values (frame s cr content)))
  pub no_spaces : fixed_words_lack 32 (omega arith) (frame_fields (syntax (kind content))) ≡ true
  pub no_line_feed : fixed_words_lack 10 (omega arith) (frame_fields (syntax (kind content))) ≡ true

is_written : (s : ℕ) (cr : Bool) (content : Content) → IsWritten s cr content
is_written s cr x = grind (arith, set_bit)

pub few : (s : ℕ) (cr : Bool) (content : Content) → InformationFits Sdcch content → length (written (frame s cr content)) ≤ 100
few s cr x many = grind (arith, length-octets_word)

least : (kind : Kind) (count : ℕ) → (kind ≡ K.I → 1 ≤ count) → min_info_octets (syntax kind).shape ≤ count
least x count some = grind arith

fitting : (shape : FrameFormat) (f : Fields) → FieldsFit Sdcch f → min_info_octets shape ≤ length f.info → AllOctets f.info
    → Fitting (fields_of_frame_format shape) (line_values_of_fields shape f)
fitting x f fit many small = grind (arith, bit_bound)

same_information : (content : Content) → (fields_of_content content).info ≡ information content
same_information x = grind arith

frame_back : (f : Frame) (line : List ℕ) → FrameFits Sdcch f → AllOctets (information f.content) →
    frame_text f ≡ line ++ codes "\n"
    → IsUnskippedLine line × ShowLineMeans line (S.Frame (octets_of Sdcch f))
frame_back f line fits small text =
    let w = is_written f.sapi f.cr f.content in
    let vs = frame_values f in
    let fit = fields_fit Sdcch f.content fits.ns_nr_fit fits.information in
    let many = least (kind f.content) _ fit.nonempty in
    let rest = fitting (line_syntax_of_frame f).shape (fields_of_content f.content) fit many (rw (same_information f.content) small) in
    let fitted : Fitting (frame_fields (line_syntax_of_frame f)) vs = (_, _, refl, fits.sapi, (_, _, refl, bit_bound f.cr, rest)) in
    let same : written f ≡ line = append_cancel_right _ line (codes "\n") text in
    let short : length (written f) ≤ 4096 = omega (arith, few f.sapi f.cr f.content fits.information) in
    rw (← same) (
      record { no_line_feed = spelled_uncut (frame_fields (line_syntax_of_frame f)) vs w.no_line_feed fitted; not_skipped = refl },
      (
        Some (SF.Frame (kind f.content), vs),
        spelled_means show_line_forms never_misplaced (SF.Frame (kind f.content)) (codes "frame") _ vs w.form_of_table refl w.no_spaces
            fitted w.once short refl,
        sym (ap show_line_of_frame w.frame_is),
      ),
    )

pub canonical_back : (f : Frame) (octets text line : List ℕ) → IsCanonicalCoding Sdcch f octets → AllOctets (information f.content)
    → IsTextOfOctets octets text → text ≡ line ++ codes "\n" → IsUnskippedLine line × ShowLineMeans line (S.Frame octets)
canonical_back f octets text line canonical small is_text whole =
    let fits = canonical.frame.fits in
    let said = one_frame_text octets text (frame_text f) is_text (inl (f, canonical.frame, refl)) in
    rw (← same_canonical Sdcch f (octets_of Sdcch f) octets (octets_canonical Sdcch f fits) canonical)
    (frame_back f line fits small (sym said ∙ whole))

pub octets_back : (octets line : List ℕ) → length octets ≡ 23 → AllOctets octets → octets_text octets ≡ line ++ codes "\n"
    → IsUnskippedLine line × ShowLineMeans line (S.Octets octets)
octets_back octets line count small text =
    let form = FixedWord (codes "octets") ∷ HexOctets 23 ∷ [] in
    let values = NumberList octets ∷ [] in
    let fits : Fitting form values = (octets, [], refl, (count, small), refl) in
    let short : length (line_of_values form values) ≤ 4096 = omega (arith, length-encode_lower octets) in
    rw (← append_cancel_right (line_of_values form values) line (codes "\n") text) (
      record { no_line_feed = spelled_uncut form values refl fits; not_skipped = refl },
      (
        Some (SF.Octets, values),
        spelled_means show_line_forms never_misplaced SF.Octets (codes "octets") (HexOctets 23 ∷ []) values
            (inl refl) refl refl fits tt short refl,
        refl,
      ),
    )

-- ---- if a line describes a frame, the text of the octets of this frame is the text that is written for the frame

from_shown : (octets : List ℕ) (said : Option Frame) → S.Frame octets ≡ show_line_of_frame said
    → (f : Frame) × (said ≡ Some f) × (octets ≡ octets_of Sdcch f)
from_shown octets x e = grind arith

says_frame : (name : ShowLineKind) (values : List Value) (octets : List ℕ) → S.Frame octets ≡ show_line_of_values name values
    → (f : Frame) × (frame_from_values name values ≡ Some f) × (octets ≡ octets_of Sdcch f)
says_frame x values octets e = grind (arith, from_shown)

pub frame_again : (written octets : List ℕ) → ShowLineMeans written (S.Frame octets) →
    (name : ShowLineKind) × (values : List Value) × (f : Frame)
    × LineMeans show_line_forms never_misplaced written (Some (name, values)) × (frame_from_values name values ≡ Some f)
    × ((text : List ℕ) → IsTextOfOctets octets text → text ≡ frame_text f)
frame_again written octets (None, means, e) = absurd cc
frame_again written octets (Some (name, values), means, e) =
    let (f, said, is) = says_frame name values octets e in
    let fits = said_fits written name values f means said in
    let frame = subst (IsFrameCoding Sdcch f) (sym is) (octets_canonical Sdcch f fits).frame in
    (name, values, f, means, said, λ text is_text. one_frame_text octets text (frame_text f) is_text (inl (f, frame, refl)))

-- ## WorkedLines: Worked examples of frames, octets and soft values, computed by hand.

-- an example frame with information: an I frame with N(S) = 5 and N(R) = 2, which is written and then parsed
asked : Frame
asked = record { sapi = 0; cr = false; content = I 5 2 true false (6 ∷ 1 ∷ []) }

example_text : frame_text asked ≡ codes "frame sapi 0 cr 0 i ns 5 nr 2 p 1 m 0 info 0601\n"
unfolding asked encode_with
example_text = refl

abbrev example_values : List Value
example_values = Number 0 ∷ Number 0 ∷ Number 5 ∷ Number 2 ∷ Number 1 ∷ Number 0 ∷ NumberList (6 ∷ 1 ∷ []) ∷ []

example_line : line_meaning show_line_forms (codes "frame sapi 0 cr 0 i ns 5 nr 2 p 1 m 0 info 0601") ≡ Some (
  SF.Frame K.I,
  example_values,
)
example_line = refl

example_frame : frame_from_values (SF.Frame K.I) example_values ≡ Some asked
unfolding asked
example_frame = refl

example_octets : octets_from_hex (codes "0601") ≡ 6 ∷ 1 ∷ []
example_octets = refl

-- the octets that fill the block after the information do not change the text of a frame
other_fill_same_text : IsTextOfOctets (3 ∷ 3 ∷ 1 ∷ replicate 20 255) (codes "frame sapi 0 cr 1 ui p 0 info -\n")
other_fill_same_text = inl (
  record { sapi = 0; cr = true; content = Ui false [] },
  grind arith,
  refl,
)

rnr_text : IsTextOfOctets (3 ∷ 0x75 ∷ 1 ∷ replicate 20 0x2b) (codes "frame sapi 0 cr 1 rnr nr 3 pf 1\n")
rnr_text = inl (
  record { sapi = 0; cr = true; content = Rnr 3 true },
  grind arith,
  refl,
)

-- a block of zeros is refused as a frame, since its EA bit is 0
zeros_refused : IsRefused Sdcch (replicate 23 0) Ea
zeros_refused = record { applies = refl; no_earlier_reason_applies = earlier }
  where
    earlier : (reason : Refusal) → refusal_test_index reason < 1 → ¬ RefusalAppliesToBlock Sdcch (replicate 23 0) reason
    earlier x before applies = grind arith

zeros_text : IsTextOfOctets (replicate 23 0) (codes "unread ea\n")
zeros_text = inr (Ea, zeros_refused, refl)

-- written in hexadecimal, the 184 data bits of a block of zeros are 46 zeros; the CRC of the block is 40 ones
zeros_data : encode_lower (octets_of_bits (take 184 (replicate 184 0 ++ replicate 40 1 ++ replicate 4 0)))
    ≡ codes "0000000000000000000000000000000000000000000000"
unfolding encode_with
zeros_data = refl

zeros_check : encode_lower (octets_of_bits (take 40 (drop 184 (replicate 184 0 ++ replicate 40 1 ++ replicate 4 0)))) ≡ codes "ffffffffff"
unfolding encode_with
zeros_check = refl

signed : signed_octets (octets_from_hex (codes "007F81ff80")) ≡ pos 0 ∷ pos 127 ∷ negsuc 126 ∷ negsuc 0 ∷ negsuc 127 ∷ []
signed = refl

certain_soft_bits : soft_bits (0 ∷ 1 ∷ []) ≡ pos 127 ∷ negsuc 126 ∷ []
certain_soft_bits = refl
