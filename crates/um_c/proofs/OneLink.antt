-- One link of the struct of a data link read, changed and written, while the other stays.
use Rattle.{
  std.{
    proofs.Common.{◌≡◌, ◌∙◌, refl, sym, ap, subst, ℕ, Bool, true, false, List, [], ◌∷◌, ◌-◌, Option, Some, None},
    proofs.Common.{arith, ◌++◌},
    specs.{Prelude.{if◌then◌else◌, ◌||◌, not, MatchOption}, Option.{is_none, option_map, unwrap_or}},
  },
  lapdm_frame.specs.{declared.{Channel.Channel, Refusal.Refusal}, Content.{Frame, fill_frame}, Frames.{octets_of, bit_of_bool, FrameFits}},
  lapdm_frame.specs.{Content.{Content, Ui}, Readings.{IsOnlyEncodedFrame, IsOnlyRefusalReason}},
  lapdm_end.specs.{Addresses.spec_role_of, Parts.EndpointValues},
  um_air.specs.lapdm_window.{declared.{Sapi.{Sapi, TheVariants.{Zero, Three}}, Notice.Notice}, Ends.{Role, command_cr, IsValidEndpoint}},
  lapdm_datalink.{
    specs.{
      declared.{links.{Link.Link, LinkSlot.LinkSlot}, data_links.Slot.Slot, outlook.{Outlook.Outlook, LinkOutlook.LinkOutlook}},
      Outlooks.{IsOutlook, IsLinkOutlook},
      Links.{LinkState, after_slot, after_received, slot_outcome, sends_nothing, SlotOutcome, is_due, slot_outcome_owing, received_notices},
      DataLinks.{DataLinkState, IsDataLink, with_link, with_clocks_moved, holds_up_sapi3, taken_by, after_arrival, sapi_for_frame},
      DataLinks.{arrival_notices, data_link_outcome, with_sapi3, is_ui, on_sapi0},
      Parts.{LinkValues, ValuesRepresent, SomeLinkHasValues, DataLinkValues, values_of, acts_in_slot},
      Abstraction.notices_if,
    },
    proofs.{Lemmas.{replaced, same_after_received, same_slot, valid_with_flags, valid_clocks, sapi0_sends, sapi3_sends}, Kept.ui-same},
  },
  um_c.{
    specs.{
      declared.datalinks.{CTimedEnd.CTimedEnd, CDataLink.CDataLink, CReport.CReport},
      DataLinkCalls.{passed_to, FrameIsPassed, IsSeen, LinkTakesFrame, LinkUsesSlot, DataLinkReceivesBlock, DataLinkFillsSlot},
      DataLinkCalls.{c_report, reports_of, reports_if_taken},
      DataLinkCalls.{with_layer1, slot_answer, slot_frame, link_values_if_valid, link_values_from, data_link_values_if_valid},
      DataLinkCalls.{c_timed_end, counted, RepresentsLink, RepresentsDataLink, IsLinkWritten, with_clocks_counted},
      DataLinkCalls.{IsLinkSeen, RepresentsSomeDataLink},
      DataLinkCalls.{IsCanonicalLink, IsWrittenOver, IsWrittenFor, SlotIsFilled, acts_on_frame, is_empty_ui},
      Plain.is_nonzero,
      States.endpoint_values_from,
    },
    proofs.{Calls.is_nonzero-bit_of_bool, DataLinkCalls.link-c_struct},
  },
}
use Rattle.lapdm_datalink.specs.Abstraction as L

some_same : {A : Type 0} {a b : A} → Some a ≡ Some b → a ≡ b
some_same e = cc

-- ## Both links of a struct

-- what it takes to represent a data link: both links, and the two bits
pub record AreBoth (c : CDataLink) (s : DataLinkState) : Type 0 where
  pub link0 : RepresentsLink c.link0 s.link0
  pub link3 : RepresentsLink c.link3 s.link3
  pub heard : is_nonzero c.heard0 ≡ s.heard_sapi0
  pub main : is_nonzero c.main ≡ s.is_main_established
  pub valid : IsDataLink s

record AreValues (c : CDataLink) (a b : Option LinkValues) (v : DataLinkValues) : Type 0 where
  link0 : a ≡ Some v.link0
  link3 : b ≡ Some v.link3
  heard : is_nonzero c.heard0 ≡ v.heard_sapi0
  main : is_nonzero c.main ≡ v.is_main_established

values_in : (c : CDataLink) (a b : Option LinkValues) (v : DataLinkValues) → data_link_values_if_valid c a b ≡ Some v →
    AreValues c a b v
values_in c (Some x) (Some y) v h = let e = some_same h in record {
  link0 = ap (λ (w : DataLinkValues). Some w.link0) e;
  link3 = ap (λ (w : DataLinkValues). Some w.link3) e;
  heard = ap (λ (w : DataLinkValues). w.heard_sapi0) e;
  main = ap (λ (w : DataLinkValues). w.is_main_established) e;
}
values_in c (Some x) None v h = absurd cc
values_in c None (Some y) v h = absurd cc
values_in c None None v h = absurd cc

pub both : (c : CDataLink) (s : DataLinkState) → RepresentsDataLink c s → AreBoth c s
both c s h = let v = values_in c (link_values_from c.link0) (link_values_from c.link3) h.values h.decoded in record {
  link0 = record { values = h.values.link0; decoded = v.link0; represents = h.represents.link0 };
  link3 = record { values = h.values.link3; decoded = v.link3; represents = h.represents.link3 };
  heard = v.heard ∙ h.represents.heard_sapi0;
  main = v.main ∙ h.represents.is_main_established;
  valid = h.represents.valid;
}

pub joined : (c : CDataLink) (s : DataLinkState) → AreBoth c s → RepresentsDataLink c s
joined c s h = record {
  values = record {
    link0 = h.link0.values;
    link3 = h.link3.values;
    heard_sapi0 = is_nonzero c.heard0;
    is_main_established = is_nonzero c.main;
  };
  decoded = rw (h.link0.decoded, h.link3.decoded) refl;
  represents = record {
    valid = h.valid;
    link0 = h.link0.represents;
    link3 = h.link3.represents;
    heard_sapi0 = h.heard;
    is_main_established = h.main;
  };
}

-- ## One link

-- the values of a view of a struct represent what the struct represents
pub view_represents : (c : CTimedEnd) (x : LinkValues) (l : LinkState) → link_values_from c ≡ Some x → RepresentsLink c l →
    ValuesRepresent x l
view_represents c x l is h = subst (λ (y : LinkValues). ValuesRepresent y l) (some_same (sym h.decoded ∙ is)) h.represents

-- a struct that was written from a link represents what that represents
pub link_written : (m : Link) (l : LinkState) (c : CTimedEnd) → c ≡ c_timed_end (values_of m) → L.Represents m l →
    RepresentsLink c l
link_written m l c is h = record {
  values = values_of m;
  decoded = ap link_values_from is ∙ link-c_struct (values_of m) m.endpoint.window.at_most_8;
  represents = record { link = m; values_match = refl; represents = h };
}

abbrev moved : (is_stopped : Bool) → LinkValues → LinkValues
moved b x = record x { clock = if b then x.clock else x.clock - 1 }

counted_values : (c : CTimedEnd) (b : Bool) (e : Option EndpointValues) (x : LinkValues) → link_values_if_valid c e ≡ Some x →
    link_values_if_valid (counted b c) e ≡ Some (moved b x)
counted_values c b (Some e) x h = ap (λ (y : LinkValues). Some (moved b y)) (some_same h)
counted_values c b None x h = absurd cc

pub link_counted : (c : CTimedEnd) (b : Bool) (l : LinkState) → RepresentsLink c l →
    RepresentsLink (counted b c) (if b then l else after_slot l)
link_counted c b l h = record {
  values = moved b h.values;
  decoded = counted_values c b (endpoint_values_from c.end) h.values h.decoded;
  represents = in_time b;
}
  where
    in_time : (b : Bool) → ValuesRepresent (moved b h.values) (if b then l else after_slot l)
    in_time true = h.represents
    in_time false = let g = h.represents in record {
      link = record g.link { clock = g.link.clock - 1 };
      values_match = ap (moved false) g.values_match;
      represents = record {
        endpoint = g.represents.endpoint;
        t200 = g.represents.t200;
        answer = g.represents.answer;
        is_answer = g.represents.is_answer;
        is_sent = g.represents.is_sent;
        heard = g.represents.heard;
        clock = ap (λ (k : ℕ). k - 1) g.represents.clock;
      };
    }

-- ## What is seen of a struct

pub one_seen : (t : Bool) (c : CTimedEnd) (x : LinkValues) (r : Option LinkOutlook) → link_values_from c ≡ Some x →
    MatchOption r (SomeLinkHasValues x → ⊥)
    (λ o. SomeLinkHasValues x × ((l : LinkState) → ValuesRepresent x l → IsLinkOutlook t o l)) →
    MatchOption r ((l : LinkState) → RepresentsLink c l → ⊥) (IsLinkSeen t c)
one_seen t c x None is none = λ l h. none (l, view_represents c x l is h)
one_seen t c x (Some o) is seen = record {
  some = (seen.0.0, record { values = x; decoded = is; represents = seen.0.1 });
  outlook = λ l h. seen.1 l (view_represents c x l is h);
}

pub both_seen : (c : CDataLink) (a b : LinkOutlook) (r : Option Outlook) → IsLinkSeen false c.link0 a →
    IsLinkSeen (is_nonzero c.heard0) c.link3 b →
    ((s : DataLinkState) → IsLinkOutlook false a s.link0 → IsLinkOutlook s.heard_sapi0 b s.link3 →
    is_nonzero c.main ≡ s.is_main_established → MatchOption r (IsDataLink s → ⊥) (λ o. IsDataLink s × IsOutlook o s)) →
    MatchOption r (RepresentsSomeDataLink c → ⊥) (IsSeen c)
unfolding both
both_seen c a b None h g known =
    λ n. (let z = both c n.0 n.1 in
    known n.0 (h.outlook n.0.link0 z.link0)
    (subst (λ (t : Bool). IsLinkOutlook t b n.0.link3) z.heard (g.outlook n.0.link3 z.link3)) z.main z.valid)
both_seen c a b (Some o) h g known =
    let s : DataLinkState = record {
      link0 = h.some.0;
      link3 = g.some.0;
      heard_sapi0 = is_nonzero c.heard0;
      is_main_established = is_nonzero c.main;
    } in
    let valid = (known s (h.outlook s.link0 h.some.1) (g.outlook s.link3 g.some.1) refl).0 in
    record {
      some = (s, joined c s (record { link0 = h.some.1; link3 = g.some.1; heard = refl; main = refl; valid = valid }));
      outlook = λ n m. (let z = both c n m in
          (known n (h.outlook n.link0 z.link0)
          (subst (λ (t : Bool). IsLinkOutlook t b n.link3) z.heard (g.outlook n.link3 z.link3)) z.main).1);
    }

-- ## Canonical form

pub link_is_written : (m : Link) (c : CTimedEnd) → c ≡ c_timed_end (values_of m) → IsCanonicalLink c
link_is_written m c is =
    (values_of m, ap link_values_from is ∙ link-c_struct (values_of m) m.endpoint.window.at_most_8, is)

pub counts : (b : Bool) (c : CTimedEnd) → IsCanonicalLink c → IsCanonicalLink (counted b c)
counts b c h =
    (moved b h.0, counted_values c b (endpoint_values_from c.end) h.0 h.1, ap (counted b) h.2)

pub links_of : (a : CDataLink) (s : DataLinkState) → IsWrittenFor s a → IsCanonicalLink a.link0 × IsCanonicalLink a.link3
unfolding both
links_of a s h =
    let g = both a s h.represents in (
      (h.represents.values.link0, g.link0.decoded, ap (λ (c : CDataLink). c.link0) h.canonical),
      (h.represents.values.link3, g.link3.decoded, ap (λ (c : CDataLink). c.link3) h.canonical),
    )

stays_canonical : (acts : Bool) (c d : CTimedEnd) → IsCanonicalLink c → IsLinkWritten acts c d → IsCanonicalLink d
stays_canonical true c d h w = w
stays_canonical false c d h w = rw w h

pub kept : (before after : CDataLink) (acts : Sapi → Bool) (s : DataLinkState) → IsCanonicalLink before.link0 →
    IsCanonicalLink before.link3 → IsWrittenOver before acts s after → IsWrittenFor s after
unfolding both
kept before after acts s h0 h3 w =
    let a = stays_canonical (acts Zero) before.link0 after.link0 h0 w.link0 in
    let b = stays_canonical (acts Three) before.link3 after.link3 h3 w.link3 in
    let g = both after s w.represents in
    let v = w.represents.represents in
    let x = w.represents.values in
    record {
      represents = w.represents;
      canonical = λ i. record {
        link0 = (a.2 ∙ ap c_timed_end (some_same (sym a.1 ∙ g.link0.decoded))) i;
        link3 = (b.2 ∙ ap c_timed_end (some_same (sym b.1 ∙ g.link3.decoded))) i;
        heard0 = (w.heard0 ∙ ap bit_of_bool (sym v.heard_sapi0)) i;
        main = (w.main ∙ ap bit_of_bool (sym v.is_main_established)) i;
      };
    }

-- ## What a view of a struct shows

channel_of_values : (x : LinkValues) (l : LinkState) → ValuesRepresent x l → x.endpoint.window.channel ≡ l.endpoint.channel
channel_of_values x l h =
    sym (ap (λ (y : LinkValues). y.endpoint.window.channel) h.values_match) ∙ h.represents.endpoint.variables.channel

-- links that one struct represents have one channel
pub one_channel : (c : CTimedEnd) (l m : LinkState) → RepresentsLink c l → RepresentsLink c m →
    l.endpoint.channel ≡ m.endpoint.channel
one_channel c l m h g =
    sym (channel_of_values h.values l h.represents)
    ∙ ap (λ (x : LinkValues). x.endpoint.window.channel) (some_same (sym h.decoded ∙ g.decoded))
    ∙ channel_of_values g.values m g.represents

-- ## Slots

-- a link that does not act sends nothing
pub idle : (l : LinkState) → acts_in_slot l ≡ false → slot_outcome l ≡ sends_nothing l
idle l h = owing l.answer h
  where
    owing : (a : Option Frame) → (not (is_none a) || is_due l) ≡ false → slot_outcome_owing a l ≡ sends_nothing l
    owing None h = rw h refl
    owing (Some f) h = absurd cc

-- the struct represents the data link once its clocks were moved
pub clocks_counted : (c : CDataLink) (s : DataLinkState) → RepresentsDataLink c s →
    RepresentsDataLink (record (with_clocks_counted c) { heard0 = 0; main = bit_of_bool (is_nonzero c.main) }) (with_clocks_moved s)
clocks_counted c s h =
    let g = both c s h in
    joined _ (with_clocks_moved s) (record {
      link0 = link_counted c.link0 false s.link0 g.link0;
      link3 = rw (← g.heard) (link_counted c.link3 (is_nonzero c.heard0) s.link3 g.link3);
      heard = refl;
      main = is_nonzero-bit_of_bool (is_nonzero c.main) ∙ g.main;
      valid = valid_clocks s g.valid;
    })

-- the struct represents the data link once it has heard a frame
pub flags_written : (c : CDataLink) (s : DataLinkState) (heard : Bool) → RepresentsDataLink c s →
    RepresentsDataLink (record c { heard0 = bit_of_bool (is_nonzero c.heard0 || heard); main = bit_of_bool (is_nonzero c.main) })
    (record s { heard_sapi0 = s.heard_sapi0 || heard })
flags_written c s heard h =
    let g = both c s h in
    joined _ _ (record {
      link0 = g.link0;
      link3 = g.link3;
      heard = is_nonzero-bit_of_bool (is_nonzero c.heard0 || heard) ∙ ap (λ (b : Bool). b || heard) g.heard;
      main = is_nonzero-bit_of_bool (is_nonzero c.main) ∙ g.main;
      valid = valid_with_flags (s.heard_sapi0 || heard) s.is_main_established s g.valid;
    })

-- ## Frames

valid_endpoint : (c : CTimedEnd) (l : LinkState) → RepresentsLink c l → IsValidEndpoint l.endpoint
valid_endpoint c l h = h.represents.represents.endpoint.valid

-- the struct once the link of SAPI 0 or 3 has taken a frame, and is written unless that is a UI frame
module _ (c after : CDataLink) (f : Frame) (s : DataLinkState) (notices : List Notice) (h : RepresentsDataLink c s)
    (fits : FrameFits s.link0.endpoint.channel f) where
  pub passed_to0 : (d : CTimedEnd) → after ≡ record c { link0 = d } → LinkTakesFrame f s.link0 c.link0 d notices →
      FrameIsPassed (Some Zero) f s c after notices
  passed_to0 d is did =
      let g = both c s h in
      rw is (record {
        represents = joined _ (with_link Zero (after_received f s.link0) s) (record {
          link0 = did.represents;
          link3 = g.link3;
          heard = g.heard;
          main = g.main;
          valid = replaced Zero _ s g.valid (same_after_received f s.link0 (valid_endpoint c.link0 s.link0 g.link0) fits);
        });
        link0 = did.written;
        link3 = refl;
        reports = ap (reports_of Zero) did.notices_are;
      })

  pub passed_to3 : (d : CTimedEnd) → after ≡ record c { link3 = d } → LinkTakesFrame f s.link3 c.link3 d notices →
      FrameIsPassed (Some Three) f s c after notices
  passed_to3 d is did =
      let g = both c s h in
      rw is (record {
        represents = joined _ (with_link Three (after_received f s.link3) s) (record {
          link0 = g.link0;
          link3 = did.represents;
          heard = g.heard;
          main = g.main;
          valid = replaced Three _ s g.valid
              (same_after_received f s.link3 (valid_endpoint c.link3 s.link3 g.link3) (rw g.valid.channel fits));
        });
        link0 = refl;
        link3 = did.written;
        reports = ap (reports_of Three) did.notices_are;
      })

-- the frame is passed to no link
pub passed_to_none : (c : CDataLink) (f : Frame) (s : DataLinkState) (notices : List Notice) → RepresentsDataLink c s →
    FrameIsPassed None f s c c notices
passed_to_none c f s notices h = record { represents = h; link0 = refl; link3 = refl; reports = refl }

-- nor is a UI frame without information passed to any: it would change nothing and report nothing
empty_ui_changes : (n : ℕ) (cr : Bool) (k : Content) (l : LinkState) → is_empty_ui k ≡ true →
    (after_received (record { sapi = n; cr = cr; content = k }) l ≡ l)
    × (received_notices (record { sapi = n; cr = cr; content = k }) l ≡ []) × (is_ui k ≡ true)
empty_ui_changes n cr (Ui p []) l h = (ui-same n cr (Ui p []) l refl, grind arith, refl)
empty_ui_changes n cr (Ui p (x ∷ xs)) l h = absurd cc
empty_ui_changes n cr k l h = absurd cc

pub passed_empty_ui : (sapi : Option Sapi) (c : CDataLink) (f : Frame) (s : DataLinkState) → RepresentsDataLink c s →
    is_empty_ui f.content ≡ true → FrameIsPassed sapi f s c c []
passed_empty_ui None c f s h e = passed_to_none c f s [] h
passed_empty_ui (Some Zero) c f s h e =
    let g = empty_ui_changes f.sapi f.cr f.content s.link0 e in record {
      represents = rw g.0 h;
      link0 = rw g.2 refl;
      link3 = refl;
      reports = ap (reports_of Zero) (sym g.1);
    }
passed_empty_ui (Some Three) c f s h e =
    let g = empty_ui_changes f.sapi f.cr f.content s.link3 e in record {
      represents = rw g.0 h;
      link0 = refl;
      link3 = rw g.2 refl;
      reports = ap (reports_of Three) (sym g.1);
    }

pub no_reports : (sapi : Option Sapi) → [] ≡ reports_if_taken sapi []
no_reports None = refl
no_reports (Some sapi) = refl

taken_is : (sapi : Option Sapi) (f : Frame) (s : DataLinkState) →
    record (passed_to sapi f s) { heard_sapi0 = (passed_to sapi f s).heard_sapi0 || holds_up_sapi3 f } ≡ taken_by sapi f s
taken_is None f s = refl
taken_is (Some Zero) f s = refl
taken_is (Some Three) f s = refl

-- the struct once a frame was passed to the link of this SAPI, if any, and heard
pub taken : (sapi : Option Sapi) (f : Frame) (s : DataLinkState) (c mid after : CDataLink) (notices : List Notice) →
    sapi ≡ sapi_for_frame f s → FrameIsPassed sapi f s c mid notices →
    after ≡ record mid { heard0 = bit_of_bool (is_nonzero mid.heard0 || holds_up_sapi3 f); main = bit_of_bool (is_nonzero mid.main) } →
    IsWrittenOver c (acts_on_frame (sapi_for_frame f s) f) (after_arrival f s) after
taken sapi f s c mid after notices for_it p is = rw (sym for_it, is) (record {
  represents = rw (sym (taken_is sapi f s)) (flags_written mid (passed_to sapi f s) (holds_up_sapi3 f) p.represents);
  link0 = p.link0;
  link3 = p.link3;
  heard0 = ap bit_of_bool (ap (λ (b : Bool). b || holds_up_sapi3 f) (both mid (passed_to sapi f s) p.represents).heard
      ∙ ap (λ (d : DataLinkState). d.heard_sapi0) (taken_is sapi f s));
  main = ap bit_of_bool ((both mid (passed_to sapi f s) p.represents).main
      ∙ ap (λ (d : DataLinkState). d.is_main_established) (taken_is sapi f s));
})

-- a link that does not act uses no slot
pub uses_none : (l : LinkState) (c : CTimedEnd) (slot : LinkSlot) → RepresentsLink c l → acts_in_slot l ≡ false →
    slot ≡ record { block = None; gave_up = false } → LinkUsesSlot l slot c c
uses_none l c slot h idles is =
    let sends = idle l idles in record {
      represents = rw sends h;
      written = rw idles refl;
      block = rw (sends, is) refl;
      gave_up = rw (sends, is) refl;
    }

-- the struct of a data link, whose clocks were moved, after a slot
module _ (s : DataLinkState) (before after : CDataLink) (h : RepresentsDataLink before s) (slot0 : LinkSlot)
    (used0 : LinkUsesSlot s.link0 slot0 before.link0 after.link0) (heard : after.heard0 ≡ before.heard0)
    (main : after.main ≡ before.main) where
  some_frame : (a : Option Frame) (block : List ℕ) → Some block ≡ option_map (octets_of s.link0.endpoint.channel) a →
      is_none a ≡ false
  some_frame (Some f) block e = refl
  some_frame None block e = absurd cc

  no_frame : (a : Option Frame) → None ≡ option_map (octets_of s.link0.endpoint.channel) a → is_none a ≡ true
  no_frame (Some f) e = absurd cc
  no_frame None e = refl

  pub filled_by0 : (block : List ℕ) → slot0.block ≡ Some block → after.link3 ≡ before.link3 → (written : Option (List ℕ)) →
      written ≡ option_map (octets_of s.link0.endpoint.channel)
      (option_map (on_sapi0 s.link0.endpoint.sapi) (slot_outcome s.link0).frame) →
      SlotIsFilled s (record { block = written; gave_up0 = slot0.gave_up; gave_up3 = false }) before after
  filled_by0 block some same written with_sapi0 =
      let g = both before s h in
      let o = slot_outcome s.link0 in
      let is = sapi0_sends o o.frame s s.link0.endpoint.channel block (sym some ∙ used0.block) in
      record {
        represents = rw is (joined after (record s { link0 = o.link }) (record {
          link0 = used0.represents;
          link3 = rw same g.link3;
          heard = rw heard g.heard;
          main = rw main g.main;
          valid = replaced Zero o.link s g.valid (same_slot s.link0);
        }));
        link0 = used0.written;
        link3 = rw (some_frame o.frame block (sym some ∙ used0.block)) same;
        heard0 = heard;
        main = main;
        block = rw is with_sapi0;
        gave_up0 = rw is used0.gave_up;
        gave_up3 = rw is refl;
      }

  pub filled_by3 : (slot3 : LinkSlot) → slot0.block ≡ None → LinkUsesSlot s.link3 slot3 before.link3 after.link3 →
      SlotIsFilled s (record { block = slot3.block; gave_up0 = slot0.gave_up; gave_up3 = slot3.gave_up }) before after
  filled_by3 slot3 none used3 =
      let g = both before s h in
      let o = slot_outcome s.link0 in
      let p = slot_outcome s.link3 in
      let is = sapi3_sends o o.frame s s.link0.endpoint.channel (sym none ∙ used0.block) in
      record {
        represents = rw is (joined after (record s { link0 = o.link; link3 = p.link }) (record {
          link0 = used0.represents;
          link3 = used3.represents;
          heard = rw heard g.heard;
          main = rw main g.main;
          valid = replaced Three p.link (with_link Zero o.link s) (replaced Zero o.link s g.valid (same_slot s.link0)) (same_slot s.link3);
        }));
        link0 = used0.written;
        link3 = rw (no_frame o.frame (sym none ∙ used0.block)) used3.written;
        heard0 = heard;
        main = main;
        block = rw is (subst (λ (ch : Channel). slot3.block ≡ option_map (octets_of ch) p.frame) g.valid.channel used3.block);
        gave_up0 = rw is used0.gave_up;
        gave_up3 = rw is used3.gave_up;
      }

-- ## Calls that have seen what the struct represents
module _ {c : CDataLink} {o : Outlook} (seen : IsSeen c o) where
  pub receives_none : (octets : List ℕ) (reason : Refusal) (r : CReport) → IsOnlyRefusalReason o.channel octets reason →
      DataLinkReceivesBlock octets 9 c c r r
  receives_none octets reason r refusal = record {
    carried_out = λ s h f only. absurd ((rw (seen.outlook s h).channel at refusal).no_frame f only.frame);
    reported = λ s h f only. absurd ((rw (seen.outlook s h).channel at refusal).no_frame f only.frame);
    invalid_frame = λ s h other refused. refl;
    invalid_struct = λ none. absurd (none seen.some);
    unchanged = λ other. (refl, refl);
  }

  pub receives : (octets : List ℕ) (f : Frame) (after : CDataLink) (r report : CReport) → IsOnlyEncodedFrame o.channel f octets →
      ((s : DataLinkState) → RepresentsDataLink c s →
      IsWrittenOver c (acts_on_frame (sapi_for_frame f s) f) (after_arrival f s) after) →
      ((s : DataLinkState) → RepresentsDataLink c s →
      report ≡ c_report (reports_if_taken (sapi_for_frame f s) (arrival_notices f s))) →
      DataLinkReceivesBlock octets 0 c after r report
  receives octets f after r report frame written reports =
      let known : (s : DataLinkState) → RepresentsDataLink c s → IsOnlyEncodedFrame s.link0.endpoint.channel f octets =
      λ s h. rw (seen.outlook s h).channel at frame in
      record {
        carried_out = λ s h g only. rw ((known s h).unique g only.frame) (record { answer_is_0 = refl; written = written s h });
        reported = λ s h g only. rw ((known s h).unique g only.frame) (reports s h);
        invalid_frame = λ s h reason refusal. absurd (refusal.no_frame f (known s h).frame);
        invalid_struct = λ none. absurd (none seen.some);
        unchanged = λ other. absurd (other refl);
      }

  slot_answer-is : (c : Channel) (a : Option Frame) → (if is_none (option_map (octets_of c) a) then 10 else 0) ≡ slot_answer a
  slot_answer-is c None = refl
  slot_answer-is c (Some f) = refl

  slot_block-is : (c : Channel) (role : Role) (a : Option Frame) →
      unwrap_or (option_map (octets_of c) a) (octets_of c (fill_frame (command_cr role))) ≡ octets_of c (slot_frame role a)
  slot_block-is c role None = refl
  slot_block-is c role (Some f) = refl

  not_seven : (b : Bool) → ◌≡◌ {A = ℕ} (if b then 10 else 0) 7 → ⊥
  not_seven true h = absurd (omega arith)
  not_seven false h = absurd (omega arith)

  bits_after_slot : (o : SlotOutcome) (a : Option Frame) (s : DataLinkState) →
      ((with_sapi3 o a s).new_state.heard_sapi0 ≡ s.heard_sapi0)
      × ((with_sapi3 o a s).new_state.is_main_established ≡ s.is_main_established)
  bits_after_slot o None s = (refl, refl)
  bits_after_slot o (Some f) s = (refl, refl)

  pub fills_slot : (layer1 : List ℕ) (slot : Slot) (after : CDataLink) (old block plain : List ℕ) (r report : CReport)
      (answer : ℕ) →
      ((s : DataLinkState) → RepresentsDataLink c s → SlotIsFilled (with_clocks_moved s) slot
      (record (with_clocks_counted c) { heard0 = 0; main = bit_of_bool (is_nonzero c.main) }) after) →
      plain ≡ unwrap_or slot.block (octets_of o.channel (fill_frame (command_cr (spec_role_of o.role)))) →
      block ≡ with_layer1 o.channel layer1 plain →
      report ≡ c_report (reports_of Zero (notices_if slot.gave_up0) ++ reports_of Three (notices_if slot.gave_up3)) →
      answer ≡ (if is_none slot.block then 10 else 0) → DataLinkFillsSlot layer1 answer c after old block r report
  fills_slot layer1 slot after old block plain r report answer fills plain_is block_is report_is answer_is =
      let ch : (s : DataLinkState) → RepresentsDataLink c s → o.channel ≡ s.link0.endpoint.channel =
      λ s h. (seen.outlook s h).channel in
      let ro : (s : DataLinkState) → RepresentsDataLink c s → spec_role_of o.role ≡ s.link0.endpoint.role =
      λ s h. (seen.outlook s h).role in
      record {
        written = λ s h. (let k = fills s h in
            let sent = slot_outcome (with_clocks_moved s).link0 in
            let bits = bits_after_slot sent sent.frame (with_clocks_moved s) in
            record {
              represents = k.represents;
              link0 = k.link0;
              link3 = k.link3;
              heard0 = k.heard0 ∙ ap bit_of_bool (sym bits.0);
              main = k.main ∙ ap bit_of_bool ((both c s h).main ∙ sym bits.1);
            });
        answer_is = λ s h. answer_is ∙ ap (λ (x : Option (List ℕ)). if is_none x then 10 else 0) (fills s h).block
            ∙ slot_answer-is s.link0.endpoint.channel (data_link_outcome s).frame;
        block_is = λ s h. block_is ∙ (λ i. with_layer1 (ch s h i) layer1 (
            (plain_is ∙ (λ j. unwrap_or ((fills s h).block j) (octets_of (ch s h j) (fill_frame (command_cr (ro s h j)))))
            ∙ slot_block-is s.link0.endpoint.channel s.link0.endpoint.role (data_link_outcome s).frame) i));
        reported = λ s h. report_is
            ∙ (λ i. c_report (reports_of Zero ((fills s h).gave_up0 i) ++ reports_of Three ((fills s h).gave_up3 i)));
        invalid_struct = λ none. absurd (none seen.some);
        unchanged = λ seven. absurd (not_seven (is_none slot.block) (sym answer_is ∙ seven));
      }
