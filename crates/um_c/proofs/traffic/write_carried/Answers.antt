use Rattle.std.proofs.Common.{ap, of_z, refl, sym, to_z, w32, ◌∙◌, ◌≡◌, Bool, if◌then◌else◌, ℤ}
use Rattle.std.proofs.lemmas.Int.{to_z-of_z}
use Rattle.um_c.specs.TrafficCalls.{facch_kind, is_stolen}
use Rattle.um_c.proofs.traffic.write_carried.Goals as goal

pub returns : goal.returns
returns c =
    let flags : ℤ = to_z w32 (of_z w32 c.flags_of-flags.result) in
    let same : flags ≡ c.flags_of-flags.result = search (to_z-of_z) in
    let stolen : c.is_stolen-stolen.result ≡ is_stolen flags = c.is_stolen-stolen.ensures in
    let words : c.if_stolen_words.result ≡ (if is_stolen flags then c.args.words else 1) =
    c.if_stolen_words.ensures.value ∙ ap (λ (b : Bool). if b then c.args.words else 1) stolen in
    let erasures : c.if_stolen_erasures.result ≡ (if is_stolen flags then c.args.erasures else 0) =
    c.if_stolen_erasures.ensures.value ∙ ap (λ (b : Bool). if b then c.args.erasures else 0) stolen in
    record {
      joined = c.join-block.ensures.value;
      flags = same ∙ c.flags_of-flags.ensures;
      reported = rw (sym words, sym erasures) c.write_limited_facch_report.ensures;
      none = c.no_erasure-block.ensures;
      first = refl;
      channel = refl;
      subchannel = refl;
      heard = refl;
      kind = c.facch_kind-block.ensures ∙ ap (facch_kind c.write_limited_facch_report.new.report.accepted) stolen;
    }
