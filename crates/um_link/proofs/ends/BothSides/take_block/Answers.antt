use Rattle.{
  lapdm_end.specs.Sides.channel_of,
  lapdm_frame.specs.{AcceptedBlocks.ReadsFrame, Content.Frame},
  std.proofs.Common.{Option, ap, subst, sym},
  um_link.{specs.{FourEndpoints.channel_of_ends, Naming.spec_role_of}, proofs.Lemmas.{mobile-step, network-step}},
}
use Rattle.um_air.specs.lapdm_window.Sides as D
use Rattle.um_link.proofs.ends.BothSides.take_block.Goals as goal

pub returns-in-Mobile-clause-takes : goal.returns-in-Mobile-clause-takes
returns-in-Mobile-clause-takes c = record {
  refines = λ read reads es st.
      mobile-step _ (D.step_for_read_frame read) c.take_block.result _ _ es st _ (ap spec_role_of c.in-Mobile.is)
      (c.take_block.ensures.refines read reads);
  sapi_matches = λ read reads es st. rw c.in-Mobile.is (c.take_block.ensures.refines read reads es.mobile st.mobile).sapi_matches;
}

pub returns-in-Network-clause-takes : goal.returns-in-Network-clause-takes
returns-in-Network-clause-takes c =
    let reads_it : (read : Option Frame) → ReadsFrame (channel_of_ends c.args.self.now) c.args.accepted.now read →
    ReadsFrame (channel_of c.args.self.now.network) c.args.accepted.now read =
    λ read reads. subst (λ channel. ReadsFrame channel c.args.accepted.now read) (sym c.requires.on.network) reads in record {
      refines = λ read reads es st.
          network-step _ (D.step_for_read_frame read) c.take_block-in-Network.result _ _ es st _ (ap spec_role_of c.in-Network.is)
          c.requires.on (c.take_block-in-Network.ensures.refines read (reads_it read reads));
      sapi_matches = λ read reads es st.
          rw c.in-Network.is (c.take_block-in-Network.ensures.refines read (reads_it read reads) es.network st.network).sapi_matches;
    }
