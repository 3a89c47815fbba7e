-- Frames and their 23 octets: each list of octets encodes one frame or is refused, and each frame has one canonical list of octets.
use Rattle.{
  lapdm_frame.specs.{
    Computed.{content_with_control, frame_reading, is_information_kind, is_one, kind_of_control, reading_of_kind, reading_of_known_kind},
    Content.{Content, Fields, Frame, I, Rr, content_of_fields, content_with_fields, fields_of_content, fill_frame, information},
    Content.{all_frame_kinds, more_follows},
    Frames.{FrameFits, InformationFits, IsCanonicalCoding, IsFrameCoding, NsAndNrFit, bit_of_bool, control_octet},
    Frames.octets_of,
    Layout.{address_in_block, control_in_block, information_in_block, layer1_octet_count, length_in_block, n201},
    Lengths.{HasNoLengthFault, IsAllowedLengthOctet, IsLengthFault},
    Readings.{HasUniqueReading, IsOnlyCanonicalCoding, IsOnlyEncodedFrame, IsOnlyReading, IsOnlyRefusalReason},
    Refusals.{HasNoInformation, IsControlOctetOf, IsInformationFrame, IsRefused, RefusalAppliesToBlock, lacks_information},
    Refusals.{length_field, m_bit},
    Refusals.refusal_test_index,
    declared.{Channel.{TheVariants.{Sacch, Sdcch}, Channel}, Kind.Kind, Refusal.TheVariants.{Control, Ea, El, Empty, Length, Lpd, More}},
    declared.Refusal.Refusal,
  },
  std.{
    proofs.{
      Common.{Bool, Err, List, None, Ok, Option, Result, Some, [], ap, arith, drop, false, get_or, inl, inr, length, nat_eq, refl},
      Common.{replicate, set, suc, sym, take, true},
      Common.{ℕ, ◌%◌, ◌++◌, ◌+◌, ◌-◌, ◌/◌, ◌<◌, ◌∙◌, ◌∷◌, ◌≡◌, ◌≢◌, ◌≤◌, ◌⊎◌},
      lemmas.{Bool.{cases_Bool, cases_eq, cases_lt}, List.{drop-replicate, ext_get_or, get_or-append_right, get_or-drop, get_or-replicate}},
      lemmas.List.{get_or-take, length-append, length-drop, length-replicate, length-take, take_at},
    },
    specs.{List.AllByRecursion, Prelude.{MatchOption, if◌then◌else◌, nat_lt, not, slice_range, ◌&&◌, ◌||◌}},
  },
}
use borrow.Rule.Slice.PartMut.{put_mid}
use Rattle.lapdm_frame.specs.declared.Kind.TheVariants as K

-- ## Controls: A control octet determines the content of its frame, apart from the information and the M bit.

pub bit_bound : (b : Bool) → bit_of_bool b ≤ 1
bit_bound x = grind arith

information_frame : (octet : ℕ) (a b : Content) → IsControlOctetOf octet a → IsControlOctetOf octet b → IsInformationFrame a →
    IsInformationFrame b
information_frame _ a x h h' is_i = grind arith

information-empty : (a : Content) → HasNoInformation a → information a ≡ []
information-empty x none = grind arith

-- ## FieldLaws: Lemmas about frame contents that are given by a kind and fields.

pub record FieldsFit (channel : Channel) (f : Fields) : Type 0 where
  pub sent : f.ns ≤ 7
  pub received : f.nr ≤ 7
  pub nonempty : f.kind ≡ K.I → 1 ≤ length f.info
  pub at_most : length f.info ≤ n201 channel

pub fields_fit : (channel : Channel) (content : Content) → NsAndNrFit content → InformationFits channel content
    → FieldsFit channel (fields_of_content content)
fields_fit _ x ns_nr_fit information = grind arith

pub few_octets : (channel : Channel) (content : Content) → InformationFits channel content →
    length (fields_of_content content).info ≤ 20
few_octets x y information = grind arith

ns_and_nr_fit : (kind : Kind) (ns nr : ℕ) (pf more : Bool) (info : List ℕ) → ns ≤ 7 → nr ≤ 7
    → NsAndNrFit (content_with_fields kind ns nr pf more info)
ns_and_nr_fit x ns nr pf _ _ sent received = grind arith

pub content_fits : (channel : Channel) (f : Fields) → FieldsFit channel f
    → NsAndNrFit (content_of_fields f) × InformationFits channel (content_of_fields f)
content_fits _ f fit = grind arith

-- ## Uniqueness: Octets encode at most one frame, are refused for at most one reason, and never both encode a frame and are refused.

pub same_frame : (channel : Channel) (octets : List ℕ) (f g : Frame) → IsFrameCoding channel f octets →
    IsFrameCoding channel g octets → f ≡ g
same_frame _ _ f g is_f is_g = grind arith

pub information_bound : (channel : Channel) (content : Content) → InformationFits channel content →
    length (information content) ≤ n201 channel
information_bound _ x fits = grind arith

pub never_refused : (channel : Channel) (octets : List ℕ) (f : Frame) → IsFrameCoding channel f octets → (reason : Refusal) →
    ¬ RefusalAppliesToBlock channel octets reason
never_refused _ _ f is_f x applies = grind arith

pub same_reason : (channel : Channel) (octets : List ℕ) (a b : Refusal) → IsRefused channel octets a → IsRefused channel octets b →
    a ≡ b
same_reason _ _ a b is_a is_b = grind arith

pub only_frame : (channel : Channel) (f : Frame) (octets : List ℕ) → IsFrameCoding channel f octets →
    IsOnlyEncodedFrame channel f octets
only_frame channel f octets is_f = record {
  frame = is_f;
  unique = λ other is_other. same_frame channel octets other f is_other is_f;
  not_refused = λ reason refused. never_refused channel octets f is_f reason refused.applies;
}

only_refusal : (channel : Channel) (octets : List ℕ) (reason : Refusal) → IsRefused channel octets reason →
    IsOnlyRefusalReason channel octets reason
only_refusal _ _ reason refused = record {
  refused = refused;
  unique = grind arith;
  no_frame = grind arith;
}

-- ## Order: At most one reason for refusal is the first that applies to a block. A block to which no reason applies encodes a frame.

pub record NoneBefore (channel : Channel) (octets : List ℕ) (n : ℕ) : Type 0 where
  pub none : (reason : Refusal) → refusal_test_index reason < n → ¬ RefusalAppliesToBlock channel octets reason

module _ (channel : Channel) (octets : List ℕ) where
  none_yet : NoneBefore channel octets 0
  none_yet = record { none = λ reason before. absurd (omega arith) }

  one_more : (n : ℕ) (reason : Refusal) → refusal_test_index reason ≡ n → NoneBefore channel octets n →
      ¬ RefusalAppliesToBlock channel octets reason → NoneBefore channel octets (n + 1)
  one_more n _ here passed fails = grind arith

  pub refused : (reason : Refusal) → NoneBefore channel octets (refusal_test_index reason) →
      RefusalAppliesToBlock channel octets reason →
      IsOnlyRefusalReason channel octets reason
  refused reason passed applies = only_refusal _ octets reason (record { applies = applies; no_earlier_reason_applies = passed.none })

  pub past_lpd : address_in_block channel octets < 32 → NoneBefore channel octets 1
  past_lpd low = grind arith

  pub past_address : address_in_block channel octets < 32 → address_in_block channel octets % 2 ≢ 0 → NoneBefore channel octets 2
  past_address low odd = grind arith

  module _ (content : Content) (known : IsControlOctetOf (control_in_block channel octets) content) (passed : NoneBefore channel octets 2)
    where
      past_control : NoneBefore channel octets 3
      past_control = one_more 2 Control refl passed (λ unknown. unknown content known)

      past_length : IsAllowedLengthOctet (n201 channel) content (length_in_block channel octets) → NoneBefore channel octets 5
      past_length room = grind arith

      pub fault_refuses : (reason : Refusal) → IsLengthFault (n201 channel) content (length_in_block channel octets) reason →
          IsOnlyRefusalReason channel octets reason
      fault_refuses El el_bit_value = refused El past_control el_bit_value
      fault_refuses Length fault = refused Length (one_more 3 El refl past_control fault.0) (elim fault.1 [
        | inl above ↦ inl above
        | inr (some, kind_allows) ↦ inr (some, (content, known, kind_allows))
      ])
      fault_refuses Empty fault = refused Empty (past_length fault.0) (fault.1, (content, known, fault.2))
      fault_refuses More fault =
          let past_empty = one_more 5 Empty refl (past_length fault.0)
          (λ applies. fault.1 applies.0 (information_frame _ applies.1.0 content applies.1.1 known applies.1.2)) in
          refused More past_empty (fault.2, λ (other, is_other, is_i). fault.3 (information_frame _ other content is_other known is_i))
      fault_refuses other fault = absurd fault

pub bit_of : (n : ℕ) → n < 2 → bit_of_bool (nat_eq n 1) ≡ n
bit_of x below = grind arith

information_fits : (channel : Channel) (content : Content) → length (information content) ≤ n201 channel →
    (length (information content) ≡ 0 → ¬ IsInformationFrame content) → InformationFits channel content
information_fits _ x length_bound i_frame_not_empty = grind arith

room_is_whole : (channel : Channel) → layer1_octet_count channel + 3 + n201 channel ≡ 23
room_is_whole x = grind arith

-- no reason for refusal applies to the octets, and `content` is what their control octet and their information encode
pub record Passes (channel : Channel) (octets : List ℕ) (content : Content) : Type 0 where
  pub count : length octets ≡ 23
  pub address_in_range : address_in_block channel octets < 32
  pub address_is_odd : address_in_block channel octets % 2 ≢ 0
  pub known_control : IsControlOctetOf (control_in_block channel octets) content
  pub no_length_fault : HasNoLengthFault (n201 channel) content (length_in_block channel octets)
  pub carried : HasNoInformation content ⊎ (information content ≡
      information_in_block channel octets (length_field (length_in_block channel octets)))
  pub goes_on : IsInformationFrame content → more_follows content ≡ nat_eq (m_bit (length_in_block channel octets)) 1

module _ (channel : Channel) (octets : List ℕ) (content : Content) (passes : Passes channel octets content) where
  size_found : length (information content) ≡ length_field (length_in_block channel octets)
  size_found = elim passes.carried [
    | inl kind_allows ↦
        let nothing = ap length (information-empty content kind_allows) in
        elim (cases_lt 0 (length_field (length_in_block channel octets))) [
          | inl some ↦ absurd (passes.no_length_fault.allowed_length.kind_has_information some kind_allows)
          | inr none ↦ omega arith
        ]
    | inr e ↦ ap length e ∙ simp (length-take, length-drop)
        (omega (arith, passes.count, passes.no_length_fault.allowed_length.length_bound, room_is_whole channel))
  ]

  more_found : bit_of_bool (more_follows content) ≡ m_bit (length_in_block channel octets)
  more_found = grind arith

  information_found : information_in_block channel octets (length (information content)) ≡ information content
  information_found = elim passes.carried [
    | inl kind_allows ↦
        let nothing = information-empty content kind_allows in
        let empty : layer1_octet_count channel + 3 + length (information content) - (layer1_octet_count channel + 3) ≡ 0 = omega
        (arith, ap length nothing) in
        rw empty (sym nothing)
    | inr e ↦ ap (information_in_block channel octets) size_found ∙ sym e
  ]

  pub frame_found : IsFrameCoding channel (record {
    sapi = address_in_block channel octets / 4;
    cr = nat_eq (address_in_block channel octets / 2 % 2) 1;
    content = content;
  }) octets
  frame_found = record {
    count = passes.count;
    fits = record {
      sapi = omega (arith, passes.address_in_range);
      ns_nr_fit = passes.known_control.0;
      information = information_fits channel content (omega (arith, size_found, passes.no_length_fault.allowed_length.length_bound))
          (λ e. passes.no_length_fault.i_frame_not_empty (sym size_found ∙ e));
    };
    address_matches = omega (arith, passes.address_is_odd, bit_of (address_in_block channel octets / 2 % 2) (omega arith));
    control_matches = passes.known_control.1;
    length_matches = omega (arith, passes.no_length_fault.allowed_length.el_bit_set, size_found, more_found);
    information_matches = information_found;
  }

-- ## Existence: Every list of 23 octets encodes a frame or is refused: the computed reading says which.

equal : (a b : ℕ) → nat_eq a b ≡ true → a ≡ b
equal a b e = grind arith

differ : (a b : ℕ) → nat_eq a b ≡ false → a ≢ b
differ a b e = grind arith

above : (a b : ℕ) → nat_lt a b ≡ true → a < b
above a b e = grind arith

not_above : (a b : ℕ) → nat_lt a b ≡ false → b < suc a
not_above a b e = grind arith

module _ (k : ℕ) where
  abbrev IsOfKind : Kind → Type 0
  IsOfKind kind = k ≡ control_octet (content_with_control k false [] kind)

  octet_of : (content : Content) → IsControlOctetOf k content → IsOfKind (fields_of_content content).kind
  octet_of content is = grind arith

  control_of : (kind : Kind) (more : Bool) (info : List ℕ) → IsOfKind kind →
      IsControlOctetOf k (content_with_control k more info kind)
  control_of kind _ _ is = grind arith

  found_among : (kinds : List Kind) → MatchOption (kind_of_control k kinds) (AllByRecursion (λ kind. ¬ IsOfKind kind) kinds) IsOfKind
  found_among [] = tt
  found_among (kind ∷ kinds) = elim (cases_Bool (nat_eq k (control_octet (content_with_control k false [] kind)))) [
    | inl is ↦ rw is (equal k _ is)
    | inr other ↦ rw other (more kind (kind_of_control k kinds) (differ k _ other) (found_among kinds))
  ]
    where
      more : (kind : Kind) (found : Option Kind) → ¬ IsOfKind kind →
          MatchOption found (AllByRecursion (λ kind. ¬ IsOfKind kind) kinds) IsOfKind →
          MatchOption found (AllByRecursion (λ kind. ¬ IsOfKind kind) (kind ∷ kinds)) IsOfKind
      more kind None not none = (not, none)
      more kind (Some found) not is = is

  each_kind : (kind : Kind) → AllByRecursion (λ kind. ¬ IsOfKind kind) all_frame_kinds → ¬ IsOfKind kind
  each_kind kind none = grind arith

module _ (most length : ℕ) (k : ℕ) (more : Bool) (info : List ℕ) (kind : Kind) where
  abbrev content : Content
  content = content_with_control k more info kind

  carried : HasNoInformation content ⊎ (information content ≡ info)
  carried = grind arith

  goes_on : IsInformationFrame content → more_follows content ≡ more
  goes_on is_i = grind arith

  too_long : (nat_lt most length || (nat_lt 0 length && lacks_information kind)) ≡ true →
      (most < length) ⊎ ((0 < length) × HasNoInformation content)
  too_long e = grind arith

  within : (nat_lt most length || (nat_lt 0 length && lacks_information kind)) ≡ false →
      (length ≤ most) × (0 < length → ¬ HasNoInformation content)
  within e = grind arith

  empty : (nat_eq length 0 && is_information_kind kind) ≡ true → (length ≡ 0) × IsInformationFrame content
  empty e = grind arith

  not_empty : (nat_eq length 0 && is_information_kind kind) ≡ false → length ≡ 0 → ¬ IsInformationFrame content
  not_empty e none = grind arith

  marked : (m : ℕ) → (is_one m && not (is_information_kind kind)) ≡ true → (m ≡ 1) × ¬ IsInformationFrame content
  marked m e = grind arith

  not_marked : (m : ℕ) → (is_one m && not (is_information_kind kind)) ≡ false → m ≡ 1 → IsInformationFrame content
  not_marked m e one = grind arith

module _ (channel : Channel) (octets : List ℕ) (count : length octets ≡ 23) where
  by_test : (test : Bool) (x y : Result Frame Refusal) → (test ≡ true → IsOnlyReading channel octets x) →
      (test ≡ false → IsOnlyReading channel octets y) → IsOnlyReading channel octets (if test then x else y)
  by_test true x y yes' no' = yes' refl
  by_test false x y yes' no' = no' refl

  of_kind : address_in_block channel octets < 32 → address_in_block channel octets % 2 ≢ 0 → (kind : Kind) →
      IsOfKind (control_in_block channel octets) kind → IsOnlyReading channel octets (reading_of_kind channel octets kind)
  of_kind low odd kind is =
      let k = control_in_block channel octets in
      let octet = length_in_block channel octets in
      let most = n201 channel in
      let length = length_field octet in
      let more = is_one (m_bit octet) in
      let info = information_in_block channel octets length in
      let found = content_with_control k more info kind in
      let known = control_of k kind more info is in
      let refuses = fault_refuses channel octets found known (past_address channel octets low odd) in
      by_test _ _ _ (λ even. refuses El (equal _ _ even)) (λ el.
      by_test _ _ _ (λ long. refuses Length (differ _ _ el, too_long most length k more info kind long)) (λ room.
      let fits = within most length k more info kind room in
      let allowed : IsAllowedLengthOctet most found octet = record {
        el_bit_set = differ _ _ el;
        length_bound = fits.0;
        kind_has_information = fits.1;
      } in
      by_test _ _ _ (λ e. let none = empty most length k more info kind e in refuses Empty (allowed, none.0, none.1)) (λ some.
      let filled = not_empty most length k more info kind some in
      by_test _ _ _ (λ e. let m = marked most length k more info kind (m_bit octet) e in refuses More (allowed, filled, m.0, m.1)) (λ m.
      only_frame channel _ octets (frame_found channel octets found (record {
        count = count;
        address_in_range = low;
        address_is_odd = odd;
        known_control = known;
        no_length_fault = record {
          allowed_length = allowed;
          i_frame_not_empty = filled;
          m_bit_only_in_i_frame = not_marked most length k more info kind (m_bit octet) m;
        };
        carried = carried most length k more info kind;
        goes_on = goes_on most length k more info kind;
      }))))))

  of_known_kind : address_in_block channel octets < 32 → address_in_block channel octets % 2 ≢ 0 → (found : Option Kind) →
      MatchOption found (AllByRecursion (λ kind. ¬ IsOfKind (control_in_block channel octets) kind) all_frame_kinds)
      (IsOfKind (control_in_block channel octets)) →
      IsOnlyReading channel octets (reading_of_known_kind channel octets found)
  of_known_kind low odd None none =
      let k = control_in_block channel octets in
      refused channel octets Control (past_address channel octets low odd) (λ content is.
      each_kind k (fields_of_content content).kind none (octet_of k content is))
  of_known_kind low odd (Some kind) is = of_kind low odd kind is

  pub IsOnlyReading-frame_reading : IsOnlyReading channel octets (frame_reading channel octets)
  unfolding frame_reading
  IsOnlyReading-frame_reading =
      by_test _ _ _ (λ high. refused channel octets Lpd (none_yet channel octets) (above 31 _ high)) (λ low.
      let below = not_above 31 (address_in_block channel octets) low in
      by_test _ _ _ (λ even. refused channel octets Ea (past_lpd channel octets below) (equal _ _ even)) (λ odd.
      of_known_kind below (differ _ _ odd) (kind_of_control (control_in_block channel octets) all_frame_kinds)
      (found_among (control_in_block channel octets) all_frame_kinds)))

  pub one_reading : HasUniqueReading channel octets
  one_reading = go (frame_reading channel octets) IsOnlyReading-frame_reading
    where
      go : (reading : Result Frame Refusal) → IsOnlyReading channel octets reading → HasUniqueReading channel octets
      go (Ok f) is = inl (f, is)
      go (Err reason) is = inr (reason, is)

-- ## Canonical: Each frame has exactly one canonical list of octets, and this list reads back as that frame.

information_at : (o : List ℕ) (start n k : ℕ) → k < n → get_or (slice_range o start (start + n)) k 0 ≡ get_or o (start + k) 0
information_at o start n k below = let within : k < start + n - start = omega arith in rw (get_or-take, get_or-drop)

same_information : (channel : Channel) (f : Frame) (o p : List ℕ) → IsFrameCoding channel f o → IsFrameCoding channel f p →
    (k : ℕ) → layer1_octet_count channel + 3 ≤ k → k < layer1_octet_count channel + 3 + length (information f.content) →
    get_or o k 0 ≡ get_or p k 0
same_information channel f o p is_o is_p k low high =
    let start = layer1_octet_count channel + 3 in
    let n = length (information f.content) in
    let i = k - start in
    let within : i < n = omega arith in
    let there : start + i ≡ k = omega arith in
    let of_o = information_at o start n i within in
    let of_p = information_at p start n i within in
    let slices = is_o.information_matches ∙ sym is_p.information_matches in
    rw there at (sym of_o ∙ ap (λ xs. get_or xs i 0) slices ∙ of_p)

same_octet : (channel : Channel) (f : Frame) (o p : List ℕ) → IsCanonicalCoding channel f o → IsCanonicalCoding channel f p →
    (k : ℕ) → k < length o → get_or o k 0 ≡ get_or p k 0
same_octet channel f o p is_o is_p k within =
    let start = layer1_octet_count channel in
    elim (cases_lt k start) [
      | inl before ↦ is_o.layer1_octets_are_zero k before ∙ sym (is_p.layer1_octets_are_zero k before)
      | inr from ↦ elim (cases_lt k (start + 3)) [
        | inl head ↦ elim (cases_eq k start) [
          | inl e ↦ rw e (is_o.frame.address_matches ∙ sym is_p.frame.address_matches)
          | inr not_address ↦ elim (cases_eq k (start + 1)) [
            | inl e ↦ rw e (is_o.frame.control_matches ∙ sym is_p.frame.control_matches)
            | inr not_control ↦
                let e : k ≡ start + 2 = omega arith in
                rw e (is_o.frame.length_matches ∙ sym is_p.frame.length_matches)
          ]
        ]
        | inr rest ↦ elim (cases_lt k (start + 3 + length (information f.content))) [
          | inl inside ↦ same_information channel f o p is_o.frame is_p.frame k rest inside
          | inr past ↦
              let below : k < 23 = omega (arith, is_o.frame.count) in
              is_o.fill_octets_after_information k past below ∙ sym (is_p.fill_octets_after_information k past below)
        ]
      ]
    ]

pub same_canonical : (channel : Channel) (f : Frame) (o p : List ℕ) → IsCanonicalCoding channel f o →
    IsCanonicalCoding channel f p → o ≡ p
same_canonical _ f o p is_o is_p = ext_get_or 0 o p (omega arith) (same_octet _ f o p is_o is_p)

-- the octets after the length octet of a block: the information, then fill octets 2b up to the given size
abbrev pub filled : ℕ → List ℕ → List ℕ
filled size info = info ++ replicate (size - length info) 0x2b

module _ (size : ℕ) (info : List ℕ) (fits : length info ≤ size) where
  length-filled : length (filled size info) ≡ size
  length-filled = simp (length-append, length-replicate) (omega arith)

  filled_front : (start : ℕ) → take (start + length info - start) (filled size info) ≡ info
  filled_front _ = take_at _ _ _ (omega arith)

  filled_after : (k : ℕ) → length info ≤ k → k < size → get_or (filled size info) k 0 ≡ 0x2b
  filled_after k low high =
      let within : k - length info < size - length info = omega arith in
      get_or-append_right info _ (length info) k 0 refl low
      ∙ get_or-replicate _ _ 0x2b 0 within

-- the octets of a frame after its length octet
past_head : (channel : Channel) (f : Frame) (k : ℕ) → layer1_octet_count channel + 3 ≤ k → get_or (octets_of channel f) k 0
    ≡ get_or (filled (n201 channel) (information f.content)) (k - (layer1_octet_count channel + 3)) 0
past_head x f k low = grind arith

layer1_zero : (channel : Channel) (f : Frame) (k : ℕ) → k < layer1_octet_count channel → get_or (octets_of channel f) k 0 ≡ 0
layer1_zero x f k below = grind arith

pub octets_canonical : (channel : Channel) (f : Frame) → FrameFits channel f → IsCanonicalCoding channel f (octets_of channel f)
octets_canonical channel f fits = record {
  frame = frame channel fits;
  layer1_octets_are_zero = layer1_zero channel f;
  fill_octets_after_information = λ k low high.
      past_head channel f k (omega (arith, low))
      ∙ filled_after (n201 channel) (information f.content) most (k - (layer1_octet_count channel + 3)) (omega (arith, low))
      (omega (arith, high, room_is_whole channel));
}
  where
    most : length (information f.content) ≤ n201 channel
    most = information_bound channel f.content fits.information

    frame : (channel : Channel) → FrameFits channel f → IsFrameCoding channel f (octets_of channel f)
    frame Sdcch fits = let fit = information_bound Sdcch f.content fits.information in record {
      count = ap (λ n. suc (suc (suc n))) (length-filled 20 (information f.content) fit);
      fits = fits;
      address_matches = refl;
      control_matches = refl;
      length_matches = refl;
      information_matches = filled_front 20 (information f.content) fit 3;
    }
    frame Sacch fits = let fit = information_bound Sacch f.content fits.information in record {
      count = ap (λ n. suc (suc (suc (suc (suc n))))) (length-filled 18 (information f.content) fit);
      fits = fits;
      address_matches = refl;
      control_matches = refl;
      length_matches = refl;
      information_matches = filled_front 18 (information f.content) fit 5;
    }

pub only_canonical : (channel : Channel) (f : Frame) → FrameFits channel f → IsOnlyCanonicalCoding channel f (octets_of channel f)
only_canonical channel f fits =
    let canonical = octets_canonical channel f fits in
    record {
      canonical = canonical;
      unique = λ others is_other. same_canonical channel f others _ is_other canonical;
      encodes_only_this_frame = only_frame channel f (octets_of channel f) canonical.frame;
    }

-- the octets that the writer produces: `zeros`, then fill octets, overwritten from index `start` on by address octet a, control octet k,
-- length octet l and `info`
abbrev pub overwritten : (start a k l : ℕ) → (zeros info : List ℕ) → List ℕ
overwritten start a k l zeros info = put_mid (start + 3) (start + 3 + length info - (start + 3))
    (set (set (set (zeros ++ drop start (replicate {A = ℕ} 23 0x2b)) start a) (start + 1) k) (start + 2) l) info

fill_left : (size before : ℕ) (info : List ℕ) → drop (before + length info - before) (replicate {A = ℕ} size 0x2b)
    ≡ replicate (size - length info) 0x2b
fill_left _ before info = let e : before + length info - before ≡ length info = omega arith in rw (e, drop-replicate)

pub written : (channel : Channel) (a k l : ℕ) (info : List ℕ) →
    overwritten (layer1_octet_count channel) a k l (replicate (layer1_octet_count channel) 0) info
    ≡ replicate (layer1_octet_count channel) 0 ++ a ∷ k ∷ l ∷ [] ++ info ++ replicate (n201 channel - length info) 0x2b
written Sdcch a k l info = ap (λ xs. a ∷ k ∷ l ∷ (info ++ xs)) (fill_left 20 3 info)
written Sacch a k l info = ap (λ xs. 0 ∷ 0 ∷ a ∷ k ∷ l ∷ (info ++ xs)) (fill_left 18 5 info)

-- ## Worked: Frames with their octets worked out by hand.

numbered : octets_of Sdcch (record { sapi = 0; cr = false; content = I 5 2 true false (0x06 ∷ 0x01 ∷ []) })
    ≡ 0x01 ∷ 0x5a ∷ 0x09 ∷ 0x06 ∷ 0x01 ∷ replicate 18 0x2b
numbered = refl

ready : octets_of Sdcch (record { sapi = 0; cr = true; content = Rr 7 false }) ≡ 0x03 ∷ 0xe1 ∷ 0x01 ∷ replicate 20 0x2b
ready = refl

fill_of_the_network : octets_of Sdcch (fill_frame true) ≡ 0x03 ∷ 0x03 ∷ 0x01 ∷ replicate 20 0x2b
fill_of_the_network = refl

fill_of_the_mobile_on_sacch : octets_of Sacch (fill_frame false) ≡ 0x00 ∷ 0x00 ∷ 0x01 ∷ 0x03 ∷ 0x01 ∷ replicate 18 0x2b
fill_of_the_mobile_on_sacch = refl
