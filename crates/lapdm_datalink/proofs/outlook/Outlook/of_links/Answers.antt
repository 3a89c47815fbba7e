use Rattle.std.proofs.Common.{sym, ◌∙◌}
use Rattle.std.proofs.lemmas.Bool.{false≢true}
use Rattle.lapdm_datalink.proofs.Views.{beside, one_data_link}
use Rattle.lapdm_datalink.proofs.outlook.Outlook.of_links.Goals as goal

pub returns-then-not-are_of_one_data_link : goal.returns-then-not-are_of_one_data_link
returns-then-not-are_of_one_data_link c s h g m v =
    false≢true (sym c.if-not-are_of_one_data_link.true ∙ c.are_of_one_data_link.ensures.1 (beside _ _ s h g v))

pub returns : goal.returns
returns c s h g m = (
  one_data_link _ _ s h g (c.are_of_one_data_link.ensures.0 c.if-not-are_of_one_data_link.false),
  record {
    role = h.role;
    channel = h.channel;
    endpoint_sapi = h.sapi;
    acts0 = h.acts;
    acts3 = g.acts;
    takes_sapi3 = c.takes_sapi3.ensures s h.role h.channel h.state m;
  },
)
