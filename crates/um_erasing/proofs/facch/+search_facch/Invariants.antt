use Rattle.um_erasing.proofs.facch.+search_facch.Given as goal

abbrev pub decreases-search_facch : goal.decreases-search_facch
decreases-search_facch l = l.count
