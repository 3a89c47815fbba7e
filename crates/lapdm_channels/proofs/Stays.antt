-- On each channel the data links deliver in order, by the laws of `lapdm_delivery`, and no more than was passed to them.
use Rattle.std.specs.Prelude.{◌≡◌, ◌≤◌, Bool, List, [], ◌∷◌, length, map, All}
use Rattle.std.specs.List.{filter_map}
use Rattle.std.proofs.Common.{arith, refl, sym, ap, ◌∙◌}
use Rattle.std.proofs.lemmas.List.{length-append}
use Rattle.std.proofs.lemmas.List.Elements.{All-head, All-tail, All-cons, All-nil}
use Rattle.lapdm_end.specs.lapdm_window.segmenting.Segments.{Message}
use Rattle.lapdm_end.specs.lapdm_window.declared.Sapi.{Sapi}
use Rattle.lapdm_end.specs.lapdm_window.Ends.{Role}
use Rattle.lapdm_link.specs.Events.{other}
use Rattle.lapdm_link.specs.Claims.{LogLine, IsPrefix, calls_in_log, notices_in_log, sent_messages, delivered_messages}
use Rattle.lapdm_link.specs.Claims.{acked_message_numbers, message_sent_by_call, message_in_got_notice, acked_number_in_notice}
use Rattle.lapdm_delivery.specs.Runs.{sapi_of_endpoint, log_of_link}
use Rattle.lapdm_delivery.specs.Lockstep.{log_before}
use Rattle.lapdm_delivery.proofs.Lockstep.{links_deliver, links_count}
use Rattle.lapdm_channels.specs.Changes.{Delivers, SendsFromUnacked, Alternates, TakesEachOnce, OnChannel, stay_on, IsOneByOne}
use Rattle.lapdm_channels.proofs.Changes.{takes_each_once}
use Rattle.lapdm_datalink.specs.declared.data_links.Establishment.{Establishment}

-- ---- the log of a link tells of its calls and notices as the whole log does

module _ (e : Establishment) (r : Role) (s : Sapi) where
  calls_told : (ls : List LogLine) → calls_in_log r (sapi_of_endpoint e s) (log_of_link e s ls) ≡ calls_in_log r s ls
  calls_told [] = refl
  calls_told (l ∷ ls) = grind (arith, calls_told ls)

  notices_told : (ls : List LogLine) → notices_in_log r (sapi_of_endpoint e s) (log_of_link e s ls) ≡ notices_in_log r s ls
  notices_told [] = refl
  notices_told (l ∷ ls) = grind (arith, notices_told ls)

prefix_short : (xs ys : List Message) → IsPrefix xs ys → length xs ≤ length ys
prefix_short xs ys h = let e = sym (length-append xs h.0) ∙ ap length h.1 in omega (arith, e)

delivers : (role : Role) (s : Sapi) (c : OnChannel) → IsOneByOne role s c → Delivers (stay_on role s c)
delivers role s c h =
    let e = c.run.establishment in
    let log = log_before c.run c.slots in
    let claims = links_deliver c.run h.calls c.slots h.regular s in
    let sent : sent_messages role (sapi_of_endpoint e s) (log_of_link e s log) ≡ sent_messages role s log =
    ap (filter_map message_sent_by_call) (calls_told e role s log) in
    let got : delivered_messages (other role) (sapi_of_endpoint e s) (log_of_link e s log) ≡ delivered_messages (other role) s log =
    ap (filter_map message_in_got_notice) (notices_told e (other role) s log) in
    let acked : acked_message_numbers role (sapi_of_endpoint e s) (log_of_link e s log) ≡ acked_message_numbers role s log =
    ap (filter_map acked_number_in_notice) (notices_told e role s log) in
    let front : IsPrefix (stay_on role s c).delivered (stay_on role s c).sent =
    rw (got, sent) at (claims.in_order role (sapi_of_endpoint e s)) in
    record {
      in_order = front;
      acked = rw (got, acked) at (links_count c.run h.calls c.slots h.regular s role (sapi_of_endpoint e s));
      ahead = omega (arith, prefix_short _ _ front, h.one_by_one);
    }

all_deliver : (role : Role) (s : Sapi) (cs : List OnChannel) → All (IsOneByOne role s) cs → All Delivers (map (stay_on role s) cs)
all_deliver role s [] h = All-nil Delivers
all_deliver role s (c ∷ cs) h =
    All-cons Delivers (stay_on role s c) (map (stay_on role s) cs) (delivers role s c (All-head (IsOneByOne role s) c cs h))
    (all_deliver role s cs (All-tail (IsOneByOne role s) c cs h))

pub taken_once : (nsd : Message → Bool) (ms : List Message) (role : Role) (s : Sapi) (cs : List OnChannel) → Alternates nsd ms →
    SendsFromUnacked ms (map (stay_on role s) cs) → All (IsOneByOne role s) cs → TakesEachOnce nsd ms (map (stay_on role s) cs)
taken_once nsd ms role s cs alt sends h = takes_each_once nsd ms (map (stay_on role s) cs) alt sends (all_deliver role s cs h)
