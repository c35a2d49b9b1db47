-- The texts of a chart that are the same in each.
use Rattle.std.specs.Prelude.{ℕ, List, ◌++◌}
use Rattle.lynx_chart.specs.declared.captions.TheConstants.{PAGE_STYLE, BOX_STYLE, LINE_STYLE, CHAIN_STYLE, DARK_STYLE, TIPS, CROSSES}

-- how all is drawn
abbrev pub style_text : List ℕ
style_text =
    PAGE_STYLE.now ++ BOX_STYLE.now ++ LINE_STYLE.now ++ CHAIN_STYLE.now
    ++ DARK_STYLE.now ++ TIPS.now ++ CROSSES.now
