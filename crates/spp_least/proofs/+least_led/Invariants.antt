use Rattle.spp_least.proofs.+least_led.Given as goal

abbrev pub decreases-least_led : goal.decreases-least_led
decreases-least_led l = l.depth
