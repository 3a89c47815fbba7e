use Rattle.um_erasing.proofs.blocks.+search.Given as goal

abbrev pub decreases-search : goal.decreases-search
decreases-search l = l.count
