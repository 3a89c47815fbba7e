-- The line forms of `end`, derived from those of a script and of `replay`: a line that begins with an endpoint of this side is a line of a
-- script, and every other line is a burst.
use Rattle.{
  std.proofs.Common.{◌||◌, Bool, Err, List, None, Ok, Option, Some, [], ap, arith, codes, false, if◌then◌else◌, inl, inr, length},
  std.proofs.Common.{map, not, option_map, refl, sym, true, ℕ, ℤ, ◌&&◌, ◌++◌, ◌==◌, ◌∙◌, ◌∷◌, ◌≡◌, IfOk},
  std.{proofs.{Common.Result, lemmas.{Bool.cases_Bool, Slice.Eq.bytes_eq-Decides}}, specs.{Str.bytes_eq, Result.result_err}},
  um_end.specs.{
    EndLines.{Calls, EndCommandLineMeaning, EndCommandLineMeans, Nothing, TakesBurst, TerminalCanCarryOutLine},
    EndLines.{burst_line_fault_in_end_command, call_line_fault_inside_block, call_line_forms, end_command_line_fault, end_command_line},
    EndLines.{meaning_of_burst_line, meaning_of_end_command_line, meaning_of_parsed_line, names_endpoint_of_side},
    EndLines.{end_parse_result, meaning_of_parse_result},
    Terminals.IsCallOfRole,
    declared.lines.EndCommandLine.EndCommandLine,
  },
  um_formats.{
    proofs.BurstLines.{AreSoft, hard, lost, skipped_only, soft},
    specs.{BurstLines.{burst_line_of_meaning, burst_parse_result}, declared.burst_lines.BurstLine.BurstLine},
  },
  um_lines.{
    proofs.FormLaws.{line_by_forms, one_made, one_meaning, parsed_by_words, parsed_meaning, parsed_means},
    specs.{
      BurstForms.{BurstLineKind, block_burst_line_forms, burst_line_forms, is_burst_out_of_order, is_single_burst, single_burst_line_forms},
      Fields.LineField,
      Forms.{LineForms, LineForm, fields_for_word_count, first_field_fault, first_word_fault, form_of_words, meaning_of_words},
      Forms.{LineMeans, never_misplaced, words_fit_form, fault_or_value},
      LinkForms.{EndCommandLineKind, LinkLineKind, end_command_line_forms, is_end_command_line_out_of_order, link_line_forms},
      LinkForms.{mobile_call_line_forms, network_call_line_forms},
      Meanings.HasOneMeaningOrFault,
      Words.{words, skips_line},
      declared.fault.LineFault.{TheVariants.{Order, Word}, LineFault},
    },
  },
  um_link.specs.{Naming.spec_event_of, lapdm_link.Events.{Ask, other}, lapdm_window.{Calls.Call, Ends.{Mobile, Network, Role, ◌then◌}}},
  um_link.specs.{um_air.{Air.Event, Sessions.EventMessageIsOctets}, declared.events.Event.Event as EventValue},
  um_script.{
    proofs.ScriptLines.read_by_parts,
    specs.{Naming.event_or_fault, ScriptLines.event_of_script_line_meaning, ScriptReading.{EventOrFault, parsed_script_words}},
  },
}
use Rattle.um_end.specs.declared.lines.EndCommandLine.TheVariants as V
use Rattle.um_lines.specs.LinkForms as L

-- ---- a table of line forms with renamed entries

abbrev renamed : {A B : Type 0} → (A → B) → LineForms A → LineForms B
renamed {A} name table = map (λ (entry : A × LineForm). (name entry.0, entry.1)) table

form-renamed : {A B : Type 0} (name : A → B) (ws : List (List ℕ)) (table : LineForms A) →
    form_of_words (renamed name table) ws ≡ option_map (λ (entry : A × LineForm). (name entry.0, entry.1)) (form_of_words table ws)
form-renamed name ws [] = refl
form-renamed name ws (entry ∷ table) = grind (arith, form-renamed name ws table)

abbrev as_call : LinkLineKind × LineForm → EndCommandLineKind × LineForm
as_call entry = (L.Call entry.0, entry.1)

-- ---- lines that begin with an endpoint of the side

by_word : (P : List ℕ → Type 0) (known w : List ℕ) → P known → (bytes_eq w known ≡ false → P w) → P w
by_word P known w here other = elim (cases_Bool (bytes_eq w known)) [
  | inl same ↦ rw ((bytes_eq-Decides w known).0 same) here
  | inr unlike ↦ other unlike
]

abbrev IsOwnForm : Role → List (List ℕ) → Type 0
IsOwnForm role ws = form_of_words (end_command_line_forms (call_line_forms role)) ws ≡ option_map as_call
    (form_of_words link_line_forms ws)

IsOwnForm-side : (role : Role) (ws : List (List ℕ)) → names_endpoint_of_side role ws ≡ true → IsOwnForm role ws
IsOwnForm-side role [] e = absurd (cc e)
IsOwnForm-side Mobile (name ∷ ws) e =
    by_word (λ n. IsOwnForm Mobile (n ∷ ws)) (codes "mob") name (form-renamed L.Call (codes "mob" ∷ ws) mobile_call_line_forms) (λ a.
    by_word (λ n. IsOwnForm Mobile (n ∷ ws)) (codes "mob3") name (form-renamed L.Call (codes "mob3" ∷ ws) mobile_call_line_forms)
    (λ b. absurd cc))
IsOwnForm-side Network (name ∷ ws) e =
    by_word (λ n. IsOwnForm Network (n ∷ ws)) (codes "net") name (form-renamed L.Call (codes "net" ∷ ws) network_call_line_forms)
    (λ a.
    by_word (λ n. IsOwnForm Network (n ∷ ws)) (codes "net3") name (form-renamed L.Call (codes "net3" ∷ ws) network_call_line_forms)
    (λ b. absurd cc))

-- the meaning, in the `end` command, of a script line with this event; `None` is a skipped line
abbrev meaning_of_script_event : Option Event → EndCommandLineMeaning
meaning_of_script_event None = Nothing
meaning_of_script_event (Some event) = Calls event

-- the fault of a call line in `end`, given its fault in a script; `b` says whether the line is inside a block
abbrev order_fault_if : Bool → Option LineFault → Option LineFault
order_fault_if b fault = if b then call_line_fault_inside_block fault else fault

record IsSameCall (held : ℕ) (ws : List (List ℕ)) (own : Option (EndCommandLineKind × LineForm)) (script : Option (LinkLineKind ×
    LineForm)) : Type 0 where
  pub fault : first_word_fault (is_end_command_line_out_of_order held) own ws ≡ order_fault_if (not (held == 0))
      (first_word_fault never_misplaced script ws)
  pub same_meaning : meaning_of_end_command_line (meaning_of_words own ws) ≡ meaning_of_script_event
      (event_of_script_line_meaning (meaning_of_words script ws))

order_fault_if-word : (b : Bool) → Some Word ≡ order_fault_if b (Some Word)
order_fault_if-word b = grind arith

order_fault_if-fields : (b : Bool) (fields : List LineField) (ws : List (List ℕ)) →
    (if b && true then Some Order else first_field_fault fields ws) ≡ order_fault_if b (first_field_fault fields ws)
order_fault_if-fields b fields ws = grind arith

IsSameCall-form : (held : ℕ) (ws : List (List ℕ)) (script : Option (LinkLineKind × LineForm)) →
    IsSameCall held ws (option_map as_call script) script
IsSameCall-form held ws None = record { fault = order_fault_if-word (not (held == 0)); same_meaning = refl }
IsSameCall-form held ws (Some entry) = record {
  fault = order_fault_if-fields (not (held == 0)) (fields_for_word_count entry.1 (length ws)) ws;
  same_meaning = refl;
}

IsSameCall-own : (role : Role) (held : ℕ) (ws : List (List ℕ)) → names_endpoint_of_side role ws ≡ true →
    IsSameCall held ws (form_of_words (end_command_line_forms (call_line_forms role)) ws) (form_of_words link_line_forms ws)
IsSameCall-own role held ws own =
    rw (IsOwnForm-side role ws own) (IsSameCall-form held ws (form_of_words link_line_forms ws))

-- ---- lines that do not begin with an endpoint of the side

-- the words of the line do not have the form of a call to this side
abbrev IsNoCall : Role → List (List ℕ) → Type 0
IsNoCall role ws = form_of_words (renamed L.Call (call_line_forms role)) ws ≡ None

or-false : (a b : Bool) → (a || b) ≡ false → (a ≡ false) × (b ≡ false)
or-false a b e = grind arith

IsNoCall-other : (role : Role) (ws : List (List ℕ)) → names_endpoint_of_side role ws ≡ false → IsNoCall role ws
IsNoCall-other Mobile [] e = refl
IsNoCall-other Network [] e = refl
IsNoCall-other Mobile (name ∷ ws) e = let h = or-false (bytes_eq name (codes "mob")) _ e in rw (h.0, h.1) refl
IsNoCall-other Network (name ∷ ws) e = let h = or-false (bytes_eq name (codes "net")) _ e in rw (h.0, h.1) refl

-- the words of a line have the same form in `end` as in `replay`, and the fault in `replay` determines the fault in `end`
record IsSameBurst (held : ℕ) (ws : List (List ℕ)) (own : Option (EndCommandLineKind × LineForm)) (burst : Option (BurstLineKind ×
    LineForm)) : Type 0 where
  pub fault : first_word_fault (is_end_command_line_out_of_order held) own ws ≡ burst_line_fault_in_end_command (first_word_fault
      (is_burst_out_of_order 3) burst ws)
  pub same_meaning : first_word_fault (is_burst_out_of_order 3) burst ws ≡ None →
      meaning_of_end_command_line (meaning_of_words own ws) ≡ meaning_of_burst_line (burst_line_of_meaning (meaning_of_words burst ws))

burst_fields : (b : Bool) (fields : List LineField) (ws : List (List ℕ)) →
    (if b && false then Some Order else first_field_fault fields ws) ≡ burst_line_fault_in_end_command (first_field_fault fields ws)
burst_fields b fields ws = grind arith

module _ (held : ℕ) (ws : List (List ℕ)) where
  by_block : (name : BurstLineKind) (form : LineForm) (b : Bool) (own : Option (EndCommandLineKind × LineForm))
      (burst : Option (BurstLineKind ×
      LineForm)) → is_single_burst name ≡ false → IsSameBurst held ws own burst →
      IsSameBurst held ws (if b then Some (L.Burst name, form) else own) (if b then Some (name, form) else burst)
  by_block name form false own burst block h = h
  by_block name form true own burst block h = record {
    fault = rw block (burst_fields (not (held == 0)) (fields_for_word_count form (length ws)) ws);
    same_meaning = λ good. refl;
  }

  by_single : (name : BurstLineKind) (form : LineForm) (b : Bool) (burst : Option (BurstLineKind × LineForm)) →
      is_single_burst name ≡ true → IsSameBurst held ws None burst → IsSameBurst held ws None (if b then Some (name, form) else burst)
  by_single name form false burst single h = h
  by_single name form true burst single h = record {
    fault = rw single refl;
    same_meaning = λ good. cc (rw single at good);
  }

  abbrev AreBlocks : LineForms BurstLineKind → Type 0
  AreBlocks [] = Unit {0}
  AreBlocks (entry ∷ table) = (is_single_burst entry.0 ≡ false) × AreBlocks table

  abbrev AreSingles : LineForms BurstLineKind → Type 0
  AreSingles [] = Unit {0}
  AreSingles (entry ∷ table) = (is_single_burst entry.0 ≡ true) × AreSingles table

  singles : (table : LineForms BurstLineKind) → AreSingles table → IsSameBurst held ws None (form_of_words table ws)
  singles [] all = record { fault = refl; same_meaning = λ good. absurd (cc good) }
  singles (entry ∷ table) all = by_single entry.0 entry.1 (words_fit_form ws entry.1) _ all.0 (singles table all.1)

  blocks : (table single : LineForms BurstLineKind) (rest : LineForms EndCommandLineKind) → AreBlocks table →
      IsSameBurst held ws (form_of_words rest ws) (form_of_words single ws) →
      IsSameBurst held ws (form_of_words (renamed L.Burst table ++ rest) ws) (form_of_words (table ++ single) ws)
  blocks [] single rest all h = h
  blocks (entry ∷ table) single rest all h =
      by_block entry.0 entry.1 (words_fit_form ws entry.1) _ _ all.0 (blocks table single rest all.1 h)

  IsSameBurst-other : (role : Role) → names_endpoint_of_side role ws ≡ false →
      IsSameBurst held ws (form_of_words (end_command_line_forms (call_line_forms role)) ws) (form_of_words burst_line_forms ws)
  IsSameBurst-other role other = blocks block_burst_line_forms single_burst_line_forms (renamed L.Call (call_line_forms role))
      (refl, (refl, (refl, tt)))
      (rw (IsNoCall-other role ws other) (singles single_burst_line_forms (refl, (refl, (refl, (refl, tt))))))

-- ---- the meaning and the fault of a whole line

pub end_one_meaning : (role : Role) (held : ℕ) (line : List ℕ) →
    HasOneMeaningOrFault (end_command_line_fault role held line) (EndCommandLineMeans role held line)
end_one_meaning Mobile held line =
    one_made meaning_of_end_command_line _ _
    (one_meaning (end_command_line_forms mobile_call_line_forms) (is_end_command_line_out_of_order held) line refl)
end_one_meaning Network held line =
    one_made meaning_of_end_command_line _ _
    (one_meaning (end_command_line_forms network_call_line_forms) (is_end_command_line_out_of_order held) line refl)

pub end_command_line_meaning : (role : Role) (held : ℕ) (line : List ℕ) (meaning : EndCommandLineMeaning) →
    EndCommandLineMeans role held line meaning → end_command_line role held line ≡ Ok meaning
unfolding end_command_line
end_command_line_meaning Mobile held line meaning means =
    parsed_meaning (end_command_line_forms mobile_call_line_forms) (is_end_command_line_out_of_order held) meaning_of_end_command_line line
    meaning refl means
end_command_line_meaning Network held line meaning means =
    parsed_meaning (end_command_line_forms network_call_line_forms) (is_end_command_line_out_of_order held) meaning_of_end_command_line line
    meaning refl means

pub end_command_line_means : (role : Role) (held : ℕ) (line : List ℕ) (meaning : EndCommandLineMeaning) →
    end_command_line role held line ≡ Ok meaning → EndCommandLineMeans role held line meaning
unfolding end_command_line
end_command_line_means role held line meaning is =
    parsed_means (end_command_line_forms (call_line_forms role)) (is_end_command_line_out_of_order held) meaning_of_end_command_line line
    meaning is

pub end_command_line_refused : (role : Role) (held : ℕ) (line : List ℕ) (fault : LineFault) →
    end_command_line_fault role held line ≡ Some fault → end_command_line role held line ≡ Err fault
unfolding end_command_line
end_command_line_refused role held line fault bad = rw bad refl

-- ---- the result of a parser for the words of a line is that for another table of line forms, with the meaning and the fault in `end`

abbrev script_call : EventOrFault → Result EndCommandLineMeaning LineFault
script_call (Ok event) = Ok (meaning_of_script_event event)
script_call (Err fault) = Err fault

abbrev block_burst : Result BurstLine LineFault → Result EndCommandLineMeaning LineFault
block_burst (Ok line) = Ok (meaning_of_burst_line line)
block_burst (Err fault) = fault_or_value (burst_line_fault_in_end_command (Some fault)) Nothing

module _ (role : Role) (held : ℕ) (ws : List (List ℕ)) where
  module _ (own : names_endpoint_of_side role ws ≡ true) where
    -- outside a block, the result is that in a script
    pub call_parsed : not (held == 0) ≡ false → (read : EventOrFault) → read ≡ parsed_script_words ws →
        script_call read ≡ end_parse_result role held ws
    call_parsed none read is =
        let same = IsSameCall-own role held ws own in
        ap script_call (is ∙ sym (read_by_parts ws)) ∙ rw (same.fault, same.same_meaning, none) (go _ _)
      where
        go : (fault : Option LineFault) (event : Option Event) →
            script_call (fault_or_value fault event) ≡ fault_or_value fault (meaning_of_script_event event)
        go None event = refl
        go (Some fault) event = refl

    -- inside a block, a call line has the fault `Order`, unless its fault in a script is `Word`
    pub call_refused : not (held == 0) ≡ true → (read : Result EventValue LineFault) →
        event_or_fault read ≡ parsed_script_words ws → (fault : LineFault) →
        Some fault ≡ call_line_fault_inside_block (result_err read) → Err fault ≡ end_parse_result role held ws
    call_refused some read is fault refused =
        let same = IsSameCall-own role held ws own in
        rw (same.fault, some) (fails _ _ _ (refused ∙ ap call_line_fault_inside_block (refusal read ∙ ap result_err (is
        ∙ sym (read_by_parts ws)) ∙ err_of _ _)))
      where
        refusal : (read : Result EventValue LineFault) → result_err read ≡ result_err (event_or_fault read)
        refusal (Ok event) = refl
        refusal (Err fault) = refl

        err_of : (fault : Option LineFault) (event : Option Event) → result_err (fault_or_value fault event) ≡ fault
        err_of None event = refl
        err_of (Some fault) event = refl

        fails : (fault : LineFault) (all : Option LineFault) (meaning : EndCommandLineMeaning) → Some fault ≡ all →
            Err fault ≡ fault_or_value all meaning
        fails fault all meaning is = rw (← is) refl

  pub burst_parsed : names_endpoint_of_side role ws ≡ false → (read : Result BurstLine LineFault) →
      read ≡ burst_parse_result 3 ws → block_burst read ≡ end_parse_result role held ws
  burst_parsed other read is =
      let same = IsSameBurst-other held ws role other in
      ap block_burst is ∙ rw same.fault (go _ _ _ refl same.same_meaning)
    where
      go : (fault good : Option LineFault) (line : BurstLine) {meaning : EndCommandLineMeaning} → good ≡ fault →
          (good ≡ None → meaning ≡ meaning_of_burst_line line) →
          block_burst (fault_or_value fault line) ≡ fault_or_value (burst_line_fault_in_end_command fault) meaning
      go None good line is same = ap Ok (sym (same is))
      go (Some fault) good line is same = grind arith

-- ---- a terminal of this side can carry out what a line means

abbrev pub CanBeCarriedOut : Role → EndCommandLineMeaning → Type 0
CanBeCarriedOut role Nothing = Unit {0}
CanBeCarriedOut role (TakesBurst soft) = AreSoft 148 soft
CanBeCarriedOut role (Calls event) = IsCallOfRole role event × EventMessageIsOctets event

infixr 30 ◌&◌
◌&◌ : {A B : Type 0} → A → B → A × B
◌&◌ a b = (a, b)

pub line-possible : (role : Role) (held : ℕ) (line : List ℕ) (meaning : EndCommandLineMeaning) →
    EndCommandLineMeans role held line meaning →
    CanBeCarriedOut role meaning
line-possible Mobile held line meaning means =
    line_by_forms (end_command_line_forms mobile_call_line_forms) (is_end_command_line_out_of_order held) meaning_of_end_command_line
    (CanBeCarriedOut Mobile) tt
    ((λ count values here (bits, rest, is, known, none). rw (is, none) (hard 148 bits known))
    & (λ count values here (octets, rest, is, known, none). rw (is, none) (soft 148 octets known))
    & (λ count values here none. rw none lost)
    & (λ count values here (m, rest, is, known, none). rw is (refl, known.2)) & (λ count values here none. (refl, tt))
    & (λ count values here (m, rest, is, known, none). rw is (refl, known.2))
    & (λ count values here (m, rest, is, known, none). rw is (refl, known.2)) & (λ count values here none. (refl, tt))
    & (λ count values here none. (refl, tt)) & (λ count values here (m, rest, is, known, none). rw is (refl, known.2))
    & (λ count values here (m, rest, is, known, none). rw is (refl, known.2)) & (λ count values here none. (refl, tt))
    & (λ count values here none. (refl, tt)) & (λ count values here none. (refl, tt)) & tt) line meaning means
line-possible Network held line meaning means =
    line_by_forms (end_command_line_forms network_call_line_forms) (is_end_command_line_out_of_order held) meaning_of_end_command_line
    (CanBeCarriedOut Network) tt
    ((λ count values here (bits, rest, is, known, none). rw (is, none) (hard 148 bits known))
    & (λ count values here (octets, rest, is, known, none). rw (is, none) (soft 148 octets known))
    & (λ count values here none. rw none lost)
    & (λ count values here none. (refl, tt)) & (λ count values here (m, rest, is, known, none). rw is (refl, known.2))
    & (λ count values here (m, rest, is, known, none). rw is (refl, known.2)) & (λ count values here none. (refl, tt))
    & (λ count values here none. (refl, tt)) & (λ count values here (m, rest, is, known, none). rw is (refl, known.2))
    & (λ count values here (m, rest, is, known, none). rw is (refl, known.2)) & (λ count values here none. (refl, tt))
    & (λ count values here none. (refl, tt)) & (λ count values here none. (refl, tt)) & tt) line meaning means

pub call_of_line : (role : Role) (held : ℕ) (line : List ℕ) (event : Event) → EndCommandLineMeans role held line (Calls event) →
    IsCallOfRole role event
call_of_line role held line event means = (line-possible role held line (Calls event) means).0

pub burst_of_line : (role : Role) (held : ℕ) (line : List ℕ) (soft : List ℤ) →
    end_command_line role held line ≡ Ok (TakesBurst soft) →
    length soft ≡ 148
burst_of_line role held line soft is =
    (line-possible role held line (TakesBurst soft) (end_command_line_means role held line (TakesBurst soft) is)).0

pub line_is_possible : (role : Role) (held : ℕ) (line : List ℕ) (read : EndCommandLine) →
    EndCommandLineMeans role held line (meaning_of_parsed_line read)
    →
    TerminalCanCarryOutLine role read
line_is_possible role held line V.Skip means = tt
line_is_possible role held line (V.Burst soft) means = (line-possible role held line (TakesBurst soft) means).1
line_is_possible role held line (V.Ask event) means = (line-possible role held line (Calls (spec_event_of event)) means).0

-- a line with a form is not read as a skipped line
pub skipped_end_line : (role : Role) (held : ℕ) (line : List ℕ) → EndCommandLineMeans role held line Nothing →
    LineMeans (end_command_line_forms (call_line_forms role)) (is_end_command_line_out_of_order held) line None
skipped_end_line Mobile held =
    skipped_only (end_command_line_forms mobile_call_line_forms) (is_end_command_line_out_of_order held)
    meaning_of_end_command_line Nothing
    ((λ _ _ _ (bits, _, is, _, none). rw (is, none) (λ q. cc)) & (λ _ _ _ (octets, _, is, _, none). rw (is, none) (λ q. cc))
    & (λ _ _ _ none. rw none (λ q. cc))
    & (λ _ _ _ _ q. cc) & (λ _ _ _ _ q. cc) & (λ _ _ _ _ q. cc) & (λ _ _ _ _ q. cc) & (λ _ _ _ _ q. cc) & (λ _ _ _ _ q. cc)
    & (λ _ _ _ _ q. cc) & (λ _ _ _ _ q. cc) & (λ _ _ _ _ q. cc) & (λ _ _ _ _ q. cc) & (λ _ _ _ _ q. cc) & tt)
skipped_end_line Network held =
    skipped_only (end_command_line_forms network_call_line_forms) (is_end_command_line_out_of_order held)
    meaning_of_end_command_line Nothing
    ((λ _ _ _ (bits, _, is, _, none). rw (is, none) (λ q. cc)) & (λ _ _ _ (octets, _, is, _, none). rw (is, none) (λ q. cc))
    & (λ _ _ _ none. rw none (λ q. cc))
    & (λ _ _ _ _ q. cc) & (λ _ _ _ _ q. cc) & (λ _ _ _ _ q. cc) & (λ _ _ _ _ q. cc) & (λ _ _ _ _ q. cc) & (λ _ _ _ _ q. cc)
    & (λ _ _ _ _ q. cc) & (λ _ _ _ _ q. cc) & (λ _ _ _ _ q. cc) & (λ _ _ _ _ q. cc) & tt)

-- what holds of the result for a line that is not skipped
pub end_parsed : (role : Role) (held : ℕ) (line : List ℕ) (result : Result EndCommandLine LineFault) →
    Ok false ≡ skips_line line → meaning_of_parse_result result ≡ end_parse_result role held (words line) →
    IfOk result (λ read. EndCommandLineMeans role held line (meaning_of_parsed_line read))
    × (result_err result ≡ end_command_line_fault role held line) × IfOk result (TerminalCanCarryOutLine role)
end_parsed role held line (Ok read) judged is =
    let (means, refused) = (parsed_by_words (end_command_line_forms (call_line_forms role)) (is_end_command_line_out_of_order held)
    meaning_of_end_command_line line (Ok false) (Ok (meaning_of_parsed_line read)) judged is).0 in
    (means, refused, line_is_possible role held line read means)
end_parsed role held line (Err fault) judged is =
    let all = (parsed_by_words (end_command_line_forms (call_line_forms role)) (is_end_command_line_out_of_order held)
    meaning_of_end_command_line line (Ok false) (Err fault) judged is).0 in
    (tt, all.1, tt)
